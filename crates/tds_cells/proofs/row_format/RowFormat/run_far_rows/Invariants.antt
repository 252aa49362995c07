use Rattle.tds_cells.proofs as N
use N.{length, ◌-◌, ◌≡◌, ◌≤◌}
use N.row_format.RowFormat.run_far_rows.Given as goal

abbrev pub invariant-loop-rest : goal.invariant-loop-rest
invariant-loop-rest l = record {
  used : l.whole.used ≤ length l.fn.bytes;
  made : l.whole.made ≤ length l.to;
  room : length l.to ≡ length l.fn.to;
  few : l.whole.rows ≤ l.whole.used;
  rows : (columns : N.List N.Column) → N.Knows l.fn.self columns
      → N.WritesNbcRows l.fn.self.charset columns l.whole.rows (N.take l.whole.used l.fn.bytes) (N.take l.whole.made l.to);
}

abbrev pub decreases-loop-rest : goal.decreases-loop-rest
decreases-loop-rest l = length l.fn.bytes - l.whole.used
