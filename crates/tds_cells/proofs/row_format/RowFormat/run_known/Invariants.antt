use Rattle.tds_cells.proofs as N
use N.{◌-◌}
use N.row_format.RowFormat.run_known.Given as goal

abbrev pub invariant-loop-formats : goal.invariant-loop-formats
invariant-loop-formats g l = N.KnownRan l.fn.self l.fn.from l.fn.bytes l.to
    (record { used = l.used; made = l.made; rows = l.rows; column = l.column })

abbrev pub decreases-loop-formats : goal.decreases-loop-formats
decreases-loop-formats g l = N.length l.fn.bytes - l.used
