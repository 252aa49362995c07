use Rattle.tds_text.proofs as N
use N.lanes_utf16.are_many_plain.Goals as goal
use N.LaneMasks.{no_bits, no_quotes, small_either}
use N.WideText.{both_plain, length-units}

pub returns-clause-front : goal.returns-clause-front
returns-clause-front c = λ none.
    let small = c.are_ascii.ensures.small (grind (N.arith, c.if-not-are_ascii.false)) in
    let each = small_either _ _ (grind (N.arith, length-units, c.fits-first.0, c.fits-second.0)) (rw (c.units_of.ensures, c.units_of-2.ensures) at small.0) in
    (both_plain 8 _ _ c.fits-first.0).1
    (each, (no_quotes _ (rw c.all_low_bytes.ensures at c.quotes_in-quotes.ensures)).0 (no_bits _ _ none).0)

pub returns-clause-back : goal.returns-clause-back
returns-clause-back c = λ none.
    let small = c.are_ascii.ensures.small (grind (N.arith, c.if-not-are_ascii.false)) in
    let each = small_either _ _ (grind (N.arith, length-units, c.fits-third.0, c.fits-fourth.0)) (rw (c.units_of-3.ensures, c.units_of-4.ensures) at small.1) in
    (both_plain 8 _ _ c.fits-third.0).1
    (each, (no_quotes _ (rw c.all_low_bytes-2.ensures at c.quotes_in.ensures)).0 (no_bits _ _ none).1)
