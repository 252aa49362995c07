use Rattle.tds_text.proofs as N
use N.doubling.convert_rest.Given as goal
use N.{◌≡◌, ◌*◌, ◌-◌, ◌≤◌, ◌+◌, length}

-- the text so far is that of the bytes so far
abbrev pub invariant-loop-at : goal.invariant-loop-at
invariant-loop-at l = record {
  from : l.fn.after.used ≤ l.at;
  within : l.at ≤ length l.bytes;
  long : l.fn.after.made + 2 * (length l.bytes - l.fn.after.used) + 16 ≤ length l.to;
  room : l.made ≤ l.fn.after.made + 2 * (l.at - l.fn.after.used);
  text : N.take l.made l.to ≡ N.doubled (N.take l.at l.bytes);
}

abbrev pub decreases-loop-at : goal.decreases-loop-at
decreases-loop-at l = length l.bytes - l.at
