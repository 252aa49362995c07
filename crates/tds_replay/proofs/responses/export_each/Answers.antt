use Rattle.tds_replay.proofs.Words as N
use Rattle.tds_replay.proofs.responses.export_each.Goals as goal

pub responses-preserved-then-report-gt0 : goal.responses-preserved-then-report-gt0
responses-preserved-then-report-gt0 g c =
    let next = rw c.in-Ok-Some.field-0-is at c.in-Ok-Some.ensures.gives in
    N.reports_more _ _ _ _ _ _ c.responses.invariant _ c.in-Ok-Some.report N.ServerError next
    (N.with_error c.in-Ok-Some.report c.responses.status c.if-report-gt0.true) c.in-Ok-Some.ensures.intact

pub responses-preserved : goal.responses-preserved
responses-preserved g c =
    let next = rw c.in-Ok-Some.field-0-is at c.in-Ok-Some.ensures.gives in
    N.reports_more _ _ _ _ _ _ c.responses.invariant _ c.in-Ok-Some.report c.responses.status next
    (N.without_error c.in-Ok-Some.report c.responses.status c.if-report-gt0.false) c.in-Ok-Some.ensures.intact

pub returns-in-Ok-None : goal.returns-in-Ok-None
returns-in-Ok-None g c =
    let next = rw c.in-Ok-None.field-0-is at c.in-Ok-None.ensures.gives in
    N.runs_to _ _ _ _ _ _ c.responses.invariant _ N.None _ (N.inl next) (omega N.arith) N.refl c.responses.invariant.status_is

pub returns-in-Err : goal.returns-in-Err
returns-in-Err g c =
    N.runs_to _ _ _ _ _ _ c.responses.invariant _ (N.Some c.in-Err.stopped) _ c.in-Err.ensures.gives (omega N.arith) N.refl c.status_of_fault-status.ensures

pub returns : goal.returns
returns g c = N.runs_to _ _ _ _ _ _ c.responses.invariant _ N.None _ (N.inr (omega N.arith, N.refl)) (omega N.arith) N.refl c.responses.invariant.status_is
