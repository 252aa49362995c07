use Rattle.tds_rows.proofs as N
use N.cell.passed.pass_long.Goals as goal
use N.{sym}
use N.PassedCells.{cell_after, short_cuts, short_passes, short_even, steps_of}

pub returns-in_err-n-in-Short-clause-cell : goal.returns-in_err-n-in-Short-clause-cell
returns-in_err-n-in-Short-clause-cell g c = λ kind conversion any. rw c.in-Short.is (N.passed _ _ _ _ c.from_residual.ensures.1
    (record { at = _; stops = N.Numbers.short_stops _ (sym any.unit_is) c.in_err-n-in-Short.ensures.length }))

pub returns-in-None-clause-cell : goal.returns-in-None-clause-cell
returns-in-None-clause-cell g c = λ kind conversion any.
    rw c.in-Short.is (record { value = N.Null; steps = steps_of (search (N.rules, N.Numbers.short_none)) })

pub returns-in-Some-clause-cell : goal.returns-in-Some-clause-cell
returns-in-Some-clause-cell g c = λ kind conversion any.
    let x = steps_of (search (N.rules, N.Numbers.short_start)) in
    let even = short_even any c.in_ok-n-in-Short.ensures.length c.in-Some.is in
    rw c.in-Short.is
    (N.MatchResult-weaker _ c.pass_data.ensures.data (λ _. short_passes any x even) (λ _. short_cuts any x))

pub returns-in_err-total-in-Chunked-clause-cell : goal.returns-in_err-total-in-Chunked-clause-cell
returns-in_err-total-in-Chunked-clause-cell g c = λ kind conversion any. rw c.in-Chunked.is (N.passed _ _ _ _ c.from_residual-in_err-total-in-Chunked.ensures.1
    (record { at = _; stops = N.Numbers.total_stops _ (sym any.unit_is) c.in_err-total-in-Chunked.ensures.length }))

pub returns-in-None-2-clause-cell : goal.returns-in-None-2-clause-cell
returns-in-None-2-clause-cell g c = λ kind conversion any.
    rw c.in-Chunked.is (record { value = N.Null; steps = steps_of (search (N.rules, N.Numbers.total_none)) })

pub returns-in-Some-2-clause-cell : goal.returns-in-Some-2-clause-cell
returns-in-Some-2-clause-cell g c = λ kind conversion any.
    let x = steps_of (search (N.rules, N.Numbers.total_start)) in
    rw c.in-Chunked.is
    (N.MatchResult-weaker _ (c.pass_chunks.ensures.cell conversion any) (λ _. cell_after x) (λ _. N.PassedCells.stops_after_steps x))
