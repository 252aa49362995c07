use Rattle.tds_rows.proofs as N
use N.rows.Rows.row_by.Given as goal
use N.{◌+◌, ◌-◌, ◌*◌, ◌≤◌}

abbrev pub invariant-loop-begun : goal.invariant-loop-begun
invariant-loop-begun g l = record {
  knows : N.KnowsSome l.self.row_format.now;
  covers : N.Covers l.nulls l.self.row_format.now.count;
  few : l.fn.self.payload.now.place + l.begun ≤ l.self.payload.now.place;
  reads : N.NextSteps.Stands g.R.Read.remaining g.W.Write.contents l.nulls l.fn.self l.self l.at l.begun;
}

abbrev pub decreases-loop-begun : goal.decreases-loop-begun
decreases-loop-begun g l = (l.self.payload.now.max_wire - l.self.payload.now.place) * 65536 + (l.self.row_format.now.count - l.at.column)
