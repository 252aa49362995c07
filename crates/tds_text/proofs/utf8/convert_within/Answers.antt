use Rattle.tds_text.proofs as N

pub returns-clause-fit : N.utf8.convert_within.Goals.returns-clause-fit
returns-clause-fit = grind (N.arith, N.common_steps, N.is_utf8-from_IsUtf8)
