use Rattle.tds_values.proofs as N
use N.{◌-◌}

pub returns-clause-written : N.numbers.put_pointed.Goals.returns-clause-written
returns-clause-written c =
    grind (N.arith, N.append_assoc, N.WordLemmas.front_put, N.length-take-le)
