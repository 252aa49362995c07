use Rattle.tds_text.proofs as N
use N.windows_1252.convert_by_hand.Given as goal
use N.{◌≡◌, ◌+◌, ◌*◌, ◌-◌, ◌≤◌}
use Rattle.tds_text.specs.Windows1252 as windows_1252

-- the text so far is that of the bytes so far
abbrev pub invariant-loop-at : goal.invariant-loop-at
invariant-loop-at l = record {
  within : l.at ≤ l.end;
  from : l.from ≤ l.at;
  end : l.end ≤ N.length l.bytes;
  most : l.made ≤ l.start + 3 * (l.at - l.from);
  fits : l.start + 3 * (l.end - l.from) + 1 ≤ N.length l.to;
  room : l.made ≤ 3 * l.at;
  text : N.take l.made l.to ≡ windows_1252.text (N.take l.at l.bytes);
}

abbrev pub decreases-loop-at : goal.decreases-loop-at
decreases-loop-at l = l.end - l.at
