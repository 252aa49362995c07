use Rattle.tds_text.proofs as N
use N.tight.convert_utf16.Goals as goal
use N.{arith, ℕ, ◌%◌, ◌*◌, ◌++◌, ◌+◌, ◌-◌, ◌/◌, ◌≡◌, ◌≤◌}
use N.WideText.{lies_itself, units_more}

pub convert_ascii-plain-requires : goal.convert_ascii-plain-requires
convert_ascii-plain-requires c =
    let bytes = c.args.bytes.now in
    let few = N.length bytes / 2 % 16 in
    let at : 0 + 2 * (few % 8) ≡ 2 * (few % 8) = omega arith in
    let begun = rw at at (units_more {at = 0} {made = 0} 8 (lies_itself bytes) (omega arith) (omega arith) (omega arith)
    c.in_ok-first.ensures (N.WideText.none_converted bytes _)) in
    let all : 2 * (few % 8) + 2 * (few - few % 8) ≡ 2 * few = omega arith in
    record {
      before = rw all at (units_more {at = 2 * (few % 8)} 8 (lies_itself bytes) (omega arith) (omega arith) (omega arith) c.in_ok-second.ensures begun);
      more = omega arith;
      within = omega arith;
      room = omega (arith, c.in_ok-first.ensures.most, c.in_ok-second.ensures.most);
    }

-- a text and more after it
take_put : (a k n : ℕ) (xs ys : N.List ℕ) → a ≤ N.length xs → n ≤ N.length ys → N.take a xs ++ N.take n ys ≡ N.take (a + n) (N.put_mid a k xs ys)
take_put a k n xs ys within few = grind (arith, N.length-take-le, N.take-append-add, N.take-append-le)

pub returns-clause-text : goal.returns-clause-text
returns-clause-text = grind (arith, N.UsualText.rest_of, N.Utf16Steps.whole_leads, N.length-drop, take_put)
