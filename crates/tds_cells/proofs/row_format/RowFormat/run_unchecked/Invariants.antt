use Rattle.tds_cells.proofs as N
use N.{◌≡◌}
use N.row_format.RowFormat.run_unchecked.Given as goal

abbrev pub invariant-loop-rest : goal.invariant-loop-rest
invariant-loop-rest l = record {
  size : N.length l.to ≡ N.length l.fn.to;
  at : N.FarRuns.FarAt l.fn.self l.fn.column l.fn.bytes l.to l.rest l.cells l.made l.rows;
}

abbrev pub decreases-loop-rest : goal.decreases-loop-rest
decreases-loop-rest l = N.length l.rest
