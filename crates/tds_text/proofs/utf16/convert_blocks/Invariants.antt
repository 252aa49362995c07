use Rattle.tds_text.proofs as N
use N.{◌*◌, ◌+◌, ◌-◌, ◌≡◌, ◌≤◌}
use N.utf16.convert_blocks.Given as goal

-- the text so far has a byte for each unit, and what is left may be converted so
abbrev pub invariant-loop-at : goal.invariant-loop-at
invariant-loop-at l = record {
  more : l.from ≤ l.at;
  single : l.at + 2 * l.start ≡ l.from + 2 * l.made;
  now : N.MayConvertSingles l.bytes l.to l.at l.end l.made;
}

abbrev pub decreases-loop-at : goal.decreases-loop-at
decreases-loop-at l = l.end - l.at
