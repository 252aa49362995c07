use Rattle.tds_values.proofs as N

pub returns-clause-written : N.numbers.put_units.Goals.returns-clause-written
returns-clause-written c = grind (N.arith, N.append_assoc, N.DigitLemmas.decimal_above, N.DigitLemmas.last_digits-below c.args.scale 8)
