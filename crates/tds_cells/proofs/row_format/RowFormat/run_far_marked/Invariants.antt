use Rattle.tds_cells.proofs as N
use N.{◌-◌, ◌≡◌, ◌≤◌}
use N.row_format.RowFormat.run_far_marked.Given as goal

abbrev pub invariant-loop-used : goal.invariant-loop-used
invariant-loop-used l = record {
  used : l.used ≤ N.length l.fn.bytes;
  made : l.made ≤ N.length l.to;
  room : N.length l.to ≡ N.length l.fn.to;
  writes : N.CellsWritten l.fn.self (N.bit l.fn.bitmap) l.fn.at l.at (N.take l.used l.fn.bytes) (N.take l.made l.to);
}

abbrev pub decreases-loop-used : goal.decreases-loop-used
decreases-loop-used l = l.fn.self.count - l.at.column
