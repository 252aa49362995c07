use Rattle.tds_cells.proofs as N
use N.{◌-◌, ◌≤◌}
use N.row_format.RowFormat.run_marked.Given as goal

abbrev pub invariant-loop-to : goal.invariant-loop-to
invariant-loop-to g l = record {
  used : l.used ≤ N.length l.fn.bytes;
  made : l.made ≤ N.length l.to;
  most : l.end ≤ l.fn.self.count;
  clear : N.BitsAre N.false (N.bit l.fn.bitmap) l.at.column l.end;
  writes : N.CellsWritten l.fn.self (N.bit l.fn.bitmap) l.fn.at l.at (N.take l.used l.fn.bytes) (N.take l.made l.to);
}

abbrev pub decreases-loop-to : goal.decreases-loop-to
decreases-loop-to g l = l.fn.self.count - l.at.column
