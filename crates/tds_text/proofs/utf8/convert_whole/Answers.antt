use Rattle.tds_text.proofs as N

pub returns-then-front-bytes-clause-fit : N.utf8.convert_whole.Goals.returns-then-front-bytes-clause-fit
returns-then-front-bytes-clause-fit = grind (N.arith, N.is_utf8-from_IsUtf8, N.take_all)
