use Rattle.tds_csv.proofs as N
use N.joiners.into_area.utf16_into.Given as goal
use N.{◌≡◌, ◌-◌, ◌%◌, ◌≤◌}
use Rattle.tds_text.specs.Utf16 as utf16

-- the characters so far were added
abbrev pub invariant-loop-at : goal.invariant-loop-at
invariant-loop-at l = record {
  within : l.at ≤ N.length l.units;
  even : (N.length l.units - l.at) % 2 ≡ 0;
  added : N.CutText.Added l.fn.to l.to (utf16.characters l.units) (utf16.characters (N.drop l.at l.units));
}

abbrev pub decreases-loop-at : goal.decreases-loop-at
decreases-loop-at l = N.length l.units - l.at
