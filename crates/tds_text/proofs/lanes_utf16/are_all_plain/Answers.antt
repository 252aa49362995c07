use Rattle.tds_text.proofs as N
use N.WideText.{both_plain}
use N.lanes_utf16.are_all_plain.Goals as goal

pub returns-then-not-are_ascii-clause-other : goal.returns-then-not-are_ascii-clause-other
returns-then-not-are_ascii-clause-other c = λ _ plain.
    let small = ((both_plain 8 _ _ c.fits-first.0).0 plain).0 in
    grind N.arith

pub returns-clause-plain : goal.returns-clause-plain
returns-clause-plain c = λ none.
    let small = rw (c.units_of.ensures, c.units_of-2.ensures) at (c.are_ascii.ensures.small (grind (N.arith, c.if-not-are_ascii.false))) in
    (both_plain 8 _ _ c.fits-first.0).1 (small, (N.LaneMasks.no_quotes _ (rw c.all_low_bytes.ensures at c.quotes_in.ensures)).0 none)

pub returns-clause-other : goal.returns-clause-other
returns-clause-other c = λ some plain.
    let parts = (both_plain 8 _ _ c.fits-first.0).0 plain in
    let none = (N.LaneMasks.no_quotes _ (rw c.all_low_bytes.ensures at c.quotes_in.ensures)).1 parts.1 in
    grind N.arith
