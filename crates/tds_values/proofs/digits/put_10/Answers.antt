use Rattle.tds_values.proofs as N

pub returns-clause-written : N.digits.put_10.Goals.returns-clause-written
returns-clause-written = grind (N.arith, N.append_assoc, N.DigitLemmas.decimal_eight)
