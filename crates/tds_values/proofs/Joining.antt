-- What is written piece by piece stands joined.
use Rattle.tds_values.proofs as N
use N.{ap, arith, codes, length, take, ℕ, ◌++◌, ◌+◌, ◌∙◌, ◌≡◌, ◌≤◌}
use Rattle.tds_values.specs.ScalarText.{march_text}

pub joined : (t a b d x y : N.List ℕ) → x ≡ t ++ a → y ≡ x ++ b → d ≡ a ++ b → y ≡ t ++ d
joined = grind (arith, N.append_assoc)

-- where a piece ends
pub end_of : (old new piece : N.List ℕ) (at r : ℕ) → at ≤ length old → r ≤ length new → take r new ≡ take at old ++ piece → r ≡ at + length piece
end_of old new piece at r ho hn e = omega (arith, ap length e, N.length-append {A = ℕ}, N.length-take-le r new hn, N.length-take-le at old ho)

-- the text of a day in a year from 1 March on, and a space after it
pub spaced : (at r k : ℕ) (old new bytes : N.List ℕ) → at ≤ length old → r ≡ at + 8 → take r new ≡ take at old ++ bytes
    → bytes ≡ march_text k ++ codes "  "
    → (take (at + 6) new ≡ take at old ++ march_text k) × (take (at + 6 + 1) new ≡ take (at + 6) new ++ codes " ")
spaced at r k old new bytes long end e is =
    let t = take at old in
    let size : length t ≡ at = N.length-take-le at old long in
    let cut : (k' : ℕ) → k' ≤ 8 → take (at + k') new ≡ t ++ take k' (march_text k ++ codes "  ") = λ k' h.
    cc (end, e, is, size, N.take-take (at + k') (at + 8) new (omega arith), N.take-append-add t (march_text k ++ codes "  ") k') in
    let seven : at + 6 + 1 ≡ at + 7 = omega arith in
    let six = cut 6 (omega arith) in
    (six, ap (λ k. take k new) seven ∙ cut 7 (omega arith) ∙ N.sym (N.append_assoc t (march_text k) (codes " ")) ∙ ap (λ x. x ++ codes " ") (N.sym six))
