-- Numbers that are read from values.
use Rattle.tds_arguments.proofs as N
use N.{◌≢◌, ◌<◌, ◌^◌, ℕ, List, [], ◌∷◌}

-- a numeral doesn't begin with a plus
no_plus : (text : List ℕ) → N.IsNumeral 10 text → N.slice_index text 0 ≢ 43
no_plus [] numeral plus = absurd (omega N.arith)
no_plus (c ∷ cs) numeral plus = grind N.arith

module _ {E : Type 0} (P Q : List ℕ → N.Result ℕ E → Type 0) where
  -- how an unsigned type of k bits reads a text
  abbrev pub reads : ℕ → List ℕ → N.Result ℕ E → Type 0
  reads k text r = N.ParsesUnsigned k 10 text r × P text r × Q text r

  pub unread_decimal : (k : ℕ) (value : N.Option (List ℕ)) (n : ℕ) → N.IsUnread (reads k) value → n < 2 ^ k → N.IsDecimal value n → ⊥
  unread_decimal = grind (N.arith, no_plus)

pub if_err : {T E : Type 0} (r : N.Result T E) {P : Type 0} → P → N.IfErr r (λ _. P)
if_err = grind N.arith
