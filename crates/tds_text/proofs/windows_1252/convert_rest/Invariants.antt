use Rattle.tds_text.proofs as N
use N.windows_1252.convert_rest.Given as goal
use N.{◌≡◌, ◌+◌, ◌*◌, ◌-◌, ◌≤◌, length}
use Rattle.tds_text.specs.Windows1252 as windows_1252

-- the text so far is that of the bytes so far
abbrev pub invariant-loop-at : goal.invariant-loop-at
invariant-loop-at l = record {
  from : l.fn.after.used ≤ l.at;
  within : l.at ≤ length l.bytes;
  long : l.fn.after.made + 3 * (length l.bytes - l.fn.after.used) + 16 ≤ length l.to;
  room : l.made ≤ l.fn.after.made + 3 * (l.at - l.fn.after.used);
  text : N.take l.made l.to ≡ windows_1252.text (N.take l.at l.bytes);
}

abbrev pub decreases-loop-at : goal.decreases-loop-at
decreases-loop-at l = length l.bytes - l.at
