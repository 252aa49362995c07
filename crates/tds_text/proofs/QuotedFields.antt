-- A field between quotes, as it is written to a slice.
use Rattle.tds_text.proofs as N
use N.{length, quote, take, ℕ, [], ◌++◌, ◌+◌, ◌∷◌, ◌≡◌, ◌≤◌}

opened : (to : N.List ℕ) → 1 ≤ length to → take 1 (N.slice_set to 0 quote) ≡ quote ∷ []
opened [] h = grind N.arith
opened (a ∷ to) h = N.refl

-- a quote, so many bytes of what was written after it, and a quote
pub quoted : (to new rest text : N.List ℕ) (m : ℕ) → 1 ≤ length to → m ≤ length new → take m new ≡ text
    → take (1 + m) (take 1 (N.slice_set to 0 quote) ++ (new ++ rest)) ++ quote ∷ [] ≡ N.quoted_field text
quoted = grind (N.arith, opened, N.take-append-le)

-- a quote, and so many bytes of what was written after it, with a quote at their end
pub closed : (to new rest text : N.List ℕ) (m : ℕ) → 1 ≤ length to → m ≤ length new → take m new ≡ text ++ quote ∷ []
    → take (1 + m) (take 1 (N.slice_set to 0 quote) ++ (new ++ rest)) ≡ N.quoted_field text
closed = grind (N.arith, opened, N.take-append-le)
