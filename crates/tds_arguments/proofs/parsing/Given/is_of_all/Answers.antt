use Rattle.tds_arguments.proofs as N
use N.parsing.Given.is_of_all.Goals as goal
use N.{◌≡◌}

pub returns-in-Some : goal.returns-in-Some
returns-in-Some c =
    let is : c.eq.result ≡ N.bytes_eq c.in-Some.value.now (N.codes "true") = search N.rules in
    rw (← N.first_value-rows, ← c.in-Some.ensures) is

pub returns-in-None : goal.returns-in-None
returns-in-None c = rw (← N.first_value-rows, ← c.in-None.ensures)
