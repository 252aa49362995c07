use Rattle.tds_text.proofs as N

pub returns-clause-taken : N.doubling.take_unquoted.Goals.returns-clause-taken
returns-clause-taken = grind (N.arith, N.Singles.unquoted_lanes 16)
