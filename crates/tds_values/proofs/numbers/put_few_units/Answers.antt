use Rattle.tds_values.proofs as N

pub returns-clause-written : N.numbers.put_few_units.Goals.returns-clause-written
returns-clause-written = grind (N.arith, N.DigitLemmas.decimal_units)
