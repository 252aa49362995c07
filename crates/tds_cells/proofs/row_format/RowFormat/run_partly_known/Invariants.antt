use Rattle.tds_cells.proofs as N
use N.{◌-◌}
use N.row_format.RowFormat.run_partly_known.Given as goal

abbrev pub invariant-loop-run : goal.invariant-loop-run
invariant-loop-run l = N.Ran l.fn.self N.Unmarked l.fn.at l.at l.fn.bytes l.to l.run

abbrev pub decreases-loop-run : goal.decreases-loop-run
decreases-loop-run l = N.length l.fn.bytes - l.run.used
