use Rattle.tds_text.proofs as N
use N.{◌*◌, ◌+◌, ◌-◌, ◌≤◌}
use N.utf16.convert_from.Given as goal

-- the text so far is that of the bytes so far
abbrev pub invariant-loop-next : goal.invariant-loop-next
invariant-loop-next l = record { long : 3 * N.length l.bytes + 32 ≤ 2 * N.length l.to; now : N.Converts l.bytes l.to l.run.used l.run.made }

abbrev pub decreases-loop-next : goal.decreases-loop-next
decreases-loop-next l = N.length l.bytes - l.run.used
