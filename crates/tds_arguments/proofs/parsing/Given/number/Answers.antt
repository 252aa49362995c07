use Rattle.tds_arguments.proofs as N
use N.parsing.Given.number.Goals as goal
use N.{◌≡◌, ◌≢◌, ◌==◌, arith}

pub returns-in_default-clause-err : goal.returns-in_default-clause-err
returns-in_default-clause-err g c =
    rw (← N.first_value-rows, ← c.in_default.ensures) tt

pub returns-then-starts_with-clause-err : goal.returns-then-starts_with-clause-err
returns-then-starts_with-clause-err g c =
    let text = c.in-Some.text.now in
    let plus : N.slice_index text 0 ≡ 43 = grind arith in
    rw (← N.first_value-rows, ← c.in-Some.ensures) (N.inl plus)

pub returns-in-Ok-clause-ok : goal.returns-in-Ok-clause-ok
returns-in-Ok-clause-ok g c =
    let text = c.in-Some.text.now in
    let plus : N.slice_index text 0 ≢ 43 = grind arith in
    rw (← N.first_value-rows, ← c.in-Some.ensures) (plus, c.in-Ok.ensures.value)

pub returns-clause-err : goal.returns-clause-err
returns-clause-err g c =
    rw (← N.first_value-rows, ← c.in-Some.ensures) (grind arith)
