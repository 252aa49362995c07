use Rattle.tds_values.proofs as N
use N.{◌-◌}

pub returns-clause-written : N.digits.put_8.Goals.returns-clause-written
returns-clause-written c = grind (N.arith, N.DigitLemmas.decimal_last (7 - c.leading_zeros.result))
