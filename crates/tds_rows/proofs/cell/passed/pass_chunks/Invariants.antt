use Rattle.tds_rows.proofs as N
use N.cell.passed.pass_chunks.Given as goal
use N.{◌-◌, ◌≤◌}

abbrev pub invariant-loop-n : goal.invariant-loop-n
invariant-loop-n g l = record {
  going : N.IsGoing l.payload;
  same : N.IsOnSame l.initial.payload l.payload;
  few : l.sum ≤ l.payload.place;
  walks : (c : N.Conversion) → N.AnyData c l.unit
      → N.PassedCells.WalksChunks c l.total l.sum (N.seen g.R.Read.remaining l.initial.payload) (N.seen g.R.Read.remaining l.payload) l.initial.payload.place
      l.payload.place;
}

abbrev pub decreases-loop-n : goal.decreases-loop-n
decreases-loop-n g l = l.payload.max_wire - l.payload.place
