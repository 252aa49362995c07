use Rattle.tds_cells.proofs as N
use N.{◌+◌, ◌-◌, ◌≤◌}
use N.chunks.lies_whole.Given as goal

abbrev pub invariant-loop-size : goal.invariant-loop-size
invariant-loop-size l = record { within : l.at ≤ N.length l.bytes; few : l.size ≤ l.most + 65535 }

abbrev pub decreases-loop-size : goal.decreases-loop-size
decreases-loop-size l = N.length l.bytes - l.at
