use Rattle.tds_text.proofs as N
use N.{◌-◌, ◌≡◌, ◌≤◌}
use N.encode.put_plain.Given as goal

-- the bytes so far are plain, and were written
abbrev pub invariant-loop-at : goal.invariant-loop-at
invariant-loop-at g l = record {
  within : l.at ≤ l.end;
  few : l.end ≤ N.length l.bytes;
  fits : l.end ≤ N.length l.to;
  plain : N.ArePlain (N.take l.at l.bytes);
  text : N.take l.at l.to ≡ N.take l.at l.bytes;
}

abbrev pub decreases-loop-at : goal.decreases-loop-at
decreases-loop-at g l = N.length l.bytes - l.at
