use Rattle.tds_values.proofs as N

pub returns-clause-written : N.digits.put_of_four.Goals.returns-clause-written
returns-clause-written = grind (N.arith, N.common_steps, N.WordLemmas.end_digits 4)
