use Rattle.tds_text.proofs as N
use N.{◌*◌, ◌+◌, ◌-◌, ◌≤◌}
use N.usual.convert_beyond.Given as goal
use Rattle.tds_text.specs.Utf8Scan.{Converts}

-- the text so far is that of the bytes so far
abbrev pub invariant-loop-at : goal.invariant-loop-at
invariant-loop-at l = record { from : l.from ≤ l.at; long : 2 * N.length l.bytes + 16 ≤ N.length l.to; converts : Converts l.bytes l.to l.at l.made }

abbrev pub decreases-loop-at : goal.decreases-loop-at
decreases-loop-at l = N.length l.bytes - l.at
