use Rattle.tds_values.proofs as N
use N.digits.leading_zeros.Goals as goal

pub returns-clause-fits : goal.returns-clause-fits
returns-clause-fits c = grind (N.arith, N.ZeroLemmas.zeros_of 7)

pub returns-clause-needed : goal.returns-clause-needed
returns-clause-needed c = grind (N.arith, N.ZeroLemmas.zeros_of 7)
