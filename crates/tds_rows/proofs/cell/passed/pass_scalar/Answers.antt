use Rattle.tds_rows.proofs as N
use N.cell.passed.pass_scalar.Goals as goal

pub value_fault-requires-clause-whole : goal.value_fault-requires-clause-whole
value_fault-requires-clause-whole g c = rw c.bytes.ensures.value (c.in_ok-gather_scalar.ensures.cell N.return_charset).whole

pub returns-in-Some-clause-cell : goal.returns-in-Some-clause-cell
returns-in-Some-clause-cell g c =
    let bad = c.in-Some.ensures in
    let x = rw (N.sym c.bytes.ensures.value) at (c.in_ok-gather_scalar.ensures.cell N.return_charset) in
    let y = x.refused _ bad.0 bad.1 in
    rw (c.refusal.ensures, c.place-place.ensures) (record { at = y.at; stops = y.stops })

pub returns-in-None-clause-cell : goal.returns-in-None-clause-cell
returns-in-None-clause-cell g c =
    let x = rw (N.sym c.bytes.ensures.value) at (c.in_ok-gather_scalar.ensures.cell N.return_charset) in
    N.PassedCells.scalar_passes N.return_charset (search N.rules) x c.in-None.ensures
