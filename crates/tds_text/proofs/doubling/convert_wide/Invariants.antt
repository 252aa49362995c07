use Rattle.tds_text.proofs as N
use N.doubling.convert_wide.Given as goal
use N.{◌≡◌, ◌*◌, ◌-◌, ◌≤◌}

-- the text so far is that of the bytes so far
abbrev pub invariant-loop-at : goal.invariant-loop-at
invariant-loop-at l = record {
  within : l.at ≤ N.length l.bytes;
  fits : l.made ≤ N.length l.to;
  room : l.made ≤ 2 * l.at;
  text : N.take l.made l.to ≡ N.doubled (N.take l.at l.bytes);
}

abbrev pub decreases-loop-at : goal.decreases-loop-at
decreases-loop-at l = N.length l.bytes - l.at
