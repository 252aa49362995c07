use Rattle.tds_cells.proofs as N
use N.{◌-◌, ◌≤◌}
use N.nulls.clear_end.Given as goal

abbrev pub invariant-loop-at : goal.invariant-loop-at
invariant-loop-at l = record { least : l.fn.from ≤ l.at; clear : N.BitsAre N.false (N.bit l.fn.bitmap) l.fn.from l.at }

abbrev pub decreases-loop-at : goal.decreases-loop-at
decreases-loop-at l = l.fn.count - l.at
