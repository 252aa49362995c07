use Rattle.tds_text.proofs as N
use N.{◌*◌, ◌+◌, ◌-◌, ◌≤◌}
use N.utf16.convert_full.Given as goal

-- the text so far is that of the bytes so far
abbrev pub invariant-loop-end : goal.invariant-loop-end
invariant-loop-end l = record {
  more : l.from ≤ l.at;
  room : l.at ≤ l.last;
  long : 3 * N.length l.bytes + 32 ≤ 2 * N.length l.to;
  now : N.Converts l.bytes l.to l.at l.made;
}

abbrev pub decreases-loop-end : goal.decreases-loop-end
decreases-loop-end l = N.length l.bytes - l.at
