use Rattle.tds_values.proofs as N

pub returns-clause-digits : N.wide.digits.Goals.returns-clause-digits
returns-clause-digits = grind (N.arith, N.WideDigits.forty)
