use Rattle.tds_columns.proofs as N
use N.metadata.read_elements.Goals as goal
use N.GatherMeaning.{gather_stops, gathers}

pub returns-in_err-count-clause-gives : goal.returns-in_err-count-clause-gives
returns-in_err-count-clause-gives = grind (N.arith, gather_stops)

pub returns-in_err-read_columns-clause-gives : goal.returns-in_err-read_columns-clause-gives
returns-in_err-read_columns-clause-gives g c = N.passed _ _ _ _ c.from_residual-in_err-read_columns.ensures.1 (λ going.
    let count = rw c.in-Columns.is at c.in_ok-count.ensures.gives in
    gather_stops (N.GatherSteps.stops_describing_after (cc) count.0 c.in_err-read_columns.ensures.gives))

pub returns-clause-gives : goal.returns-clause-gives
returns-clause-gives g c = let count = rw c.in-Columns.is at c.in_ok-count.ensures.gives in
    let read = c.in_ok-read_columns.ensures.gives in
    let both = N.GatherSteps.describes_both (cc) count.0 read.1 in
    let taken = gathers (search N.rules) both in
    (grind N.arith)
