use Rattle.tds_export.proofs as N
use N.return_value.pass_return.Goals as goal

pub returns-in_err-kind-clause-gives : goal.returns-in_err-kind-clause-gives
returns-in_err-kind-clause-gives g c =
    let x = c.in_ok-pass_name.ensures.gives in
    N.passed _ _ _ _ c.from_residual-in_err-kind.ensures.1 (N.Bodies.return_stops_after x.steps (c.in_err-kind.ensures.gives x.name))

pub returns-clause-gives : goal.returns-clause-gives
returns-clause-gives g c =
    let x = c.in_ok-pass_name.ensures.gives in
    N.Bodies.value_passed _ _ _ _ _ (N.Bodies.return_reads_after x.steps (c.in_ok-kind.ensures.gives x.name))
    (c.pass_over.ensures.cell c.in_ok-kind.ensures.leaves.payload.going)
