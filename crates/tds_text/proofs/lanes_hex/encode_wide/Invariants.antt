use Rattle.tds_text.proofs as N
use N.lanes_hex.encode_wide.Given as goal
use N.{◌≡◌, ◌*◌, ◌-◌, ◌≤◌, length}

-- the digits of the bytes so far stand there
abbrev pub invariant-loop-at : goal.invariant-loop-at
invariant-loop-at l = record {
  within : l.at ≤ length l.bytes;
  room : length l.to ≡ 2 * length l.bytes;
  digits : N.take (2 * l.at) l.to ≡ N.encode_lower (N.take l.at l.bytes);
}

abbrev pub decreases-loop-at : goal.decreases-loop-at
decreases-loop-at l = length l.bytes - l.at
