use Rattle.tds_text.proofs as N
use N.{◌≡◌, ◌+◌, ◌-◌, ◌≤◌, length, take}
use N.tight.put_all_plain.Given as goal

-- the bytes so far are plain, and were written
abbrev pub invariant-loop-at : goal.invariant-loop-at
invariant-loop-at l = record {
  within : l.at ≤ length l.bytes;
  long : length l.bytes + 16 ≤ length l.to;
  plain : N.ArePlain (take l.at l.bytes);
  text : take l.at l.to ≡ take l.at l.bytes;
}

abbrev pub decreases-loop-at : goal.decreases-loop-at
decreases-loop-at l = length l.bytes - l.at
