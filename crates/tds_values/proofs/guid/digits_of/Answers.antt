use Rattle.tds_values.proofs as N

pub returns-clause-digits : N.guid.digits_of.Goals.returns-clause-digits
returns-clause-digits = grind (N.arith, N.LaneLemmas.guid_digits)
