use Rattle.tds_text.proofs as N
use N.{◌%◌, ◌-◌, ◌≡◌, ◌≤◌}
use N.utf16.convert_mixed.Given as goal

-- the text so far is that of the bytes so far
abbrev pub invariant-loop-at : goal.invariant-loop-at
invariant-loop-at g l = record {
  more : l.from ≤ l.at;
  fits : l.made ≤ N.length l.to;
  whole : l.at % 2 ≡ l.from % 2;
  now : N.Converts l.bytes l.to l.at l.made;
}

abbrev pub decreases-loop-at : goal.decreases-loop-at
decreases-loop-at g l = N.length l.bytes - l.at
