use Rattle.tds_arguments.proofs as N
use N.parsing.Given.charset.Goals as goal
use N.{◌≡◌, true, false}

pub returns-in-Some : goal.returns-in-Some
returns-in-Some c =
    let is : N.bytes_eq c.in-Some.name.now (N.codes "utf-8") ≡ true = search N.rules in
    rw (← N.first_value-rows, ← c.in-Some.ensures, is)

pub returns-in_default : goal.returns-in_default
returns-in_default c =
    let is : N.bytes_eq c.in-Some.name.now (N.codes "utf-8") ≡ false = search N.rules in
    rw (← N.first_value-rows, ← c.in-Some.ensures, is)

pub returns-in_default-2 : goal.returns-in_default-2
returns-in_default-2 c =
    rw (← N.first_value-rows, ← c.get_str.ensures, c.in_default.is)
