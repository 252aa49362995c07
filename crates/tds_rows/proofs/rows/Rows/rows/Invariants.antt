use Rattle.tds_rows.proofs as N
use N.rows.Rows.rows.Given as goal
use N.{◌≡◌, ◌+◌, ◌-◌, ◌≤◌}
use Rattle.std.specs.Prelude.{max}

abbrev pub invariant-loop-ended : goal.invariant-loop-ended
invariant-loop-ended g l = record {
  knows : N.KnowsSome l.self.row_format.now;
  room : (g.M.Marks.space l.marks).room ≡ (g.M.Marks.space l.fn.marks).room;
  bound : (g.M.Marks.space l.marks).peak ≤ max (g.M.Marks.space l.fn.marks).peak (N.bitmap_length l.fn.self.row_format.now.count);
  few : l.fn.self.payload.now.place + l.ended ≤ l.self.payload.now.place;
  reads : N.NextSteps.RowsCome g.R.Read.remaining g.W.Write.contents g.M.Marks.token l.fn.self l.self l.ended;
}

abbrev pub decreases-loop-ended : goal.decreases-loop-ended
decreases-loop-ended g l = l.self.payload.now.max_wire - l.self.payload.now.place
