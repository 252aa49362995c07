-- Text whose characters have one or two bytes, found by a look at each byte with the next one.
use Rattle.tds_text.proofs as N
use N.{List, arith, drop, false, get_or, is_lead, suc, take, true, zero, ℕ, [], ◌++◌, ◌+◌, ◌-◌, ◌<◌, ◌∙◌, ◌∷◌, ◌≡◌, ◌≤◌}
use Rattle.tds_text.specs.Utf8Scan.{AreUnquoted}

-- Each of the first bytes, this number of them, goes on with such a text, by the next one.
pub AreJoined : ℕ → List ℕ → Type 0
AreJoined zero xs = N.⊤
AreJoined (suc n) (a ∷ b ∷ xs) = (N.is_joined (a, b) ≡ true) × AreJoined n (b ∷ xs)
AreJoined (suc n) xs = ⊥

-- ---- from a run of lanes to its bytes

run_joins : (k : ℕ) (xs : List ℕ) (n : ℕ) → k < N.length xs
    → n ≤ N.prefix_len N.is_joined (N.zip2 (λ b next. (b, next)) (take k xs) (take k (drop 1 xs))) → AreJoined n xs
unfolding AreJoined
run_joins k xs zero long few = tt
run_joins (suc k) (a ∷ b ∷ xs) (suc n) long few = (grind arith, run_joins k (b ∷ xs) n (omega arith) (grind arith))
run_joins k xs (suc n) long few = grind arith

joined_at : (source : List ℕ) (at n : ℕ) → at + 16 < N.length source → n ≤ N.prefix_len N.is_joined (N.pairs_at at source) → AreJoined n (drop at source)
joined_at source at n there few = run_joins 16 (drop at source) n (grind (arith, N.length-drop)) (rw (N.drop-drop 1 at source) few)

-- ---- the text of such bytes

-- whole characters, none of them a quote
abbrev IsUnquoted : List ℕ → Type 0
IsUnquoted text = N.IsUtf8 text × (N.doubled text ≡ text)

after : (front text : List ℕ) → IsUnquoted front → IsUnquoted text → IsUnquoted (front ++ text)
after = grind (arith, N.common_steps, N.IsUtf8-append, N.JoiningLemmas.doubled-append)

after_one : (a : ℕ) (text : List ℕ) → N.is_plain a ≡ true → IsUnquoted text → IsUnquoted (a ∷ text)
after_one a text plain = after (a ∷ []) text (N.Singles.one_utf8 a (grind arith), grind arith)

-- whole bytes of it, the last of which begins no character of two bytes
joined_text : (n : ℕ) (xs : List ℕ) → AreJoined n xs → N.is_trail (get_or xs 0 0) ≡ false → ((k : ℕ) → n ≡ suc k → is_lead (get_or xs k 0) ≡ false)
    → IsUnquoted (take n xs)
unfolding AreJoined
joined_text zero xs joined first last = grind arith
joined_text (suc zero) (a ∷ b ∷ xs) joined first last = let other = last 0 N.refl in after_one a [] (grind arith) (N.IsUtf8-nil, N.refl)
joined_text (suc (suc n)) (a ∷ b ∷ d ∷ xs) joined first last = elim (N.cases_Bool (is_lead a)) [
  | N.inl lead ↦ after (a ∷ b ∷ []) (take n (d ∷ xs)) (grind (arith, N.Utf8Laws.two_bytes), grind arith)
      (joined_text n (d ∷ xs) joined.1.1 (grind arith) (λ k is. last (suc (suc k)) (omega arith)))
  | N.inr other ↦ after_one a (take (suc n) (b ∷ d ∷ xs)) (grind arith)
      (joined_text (suc n) (b ∷ d ∷ xs) joined.1 (grind arith) (λ k is. last (suc k) (omega arith)))
]
joined_text n xs joined first last = grind arith

-- before a byte that begins a character of two bytes no other one does
lead_after : (n : ℕ) (xs : List ℕ) → AreJoined (suc (suc n)) xs → is_lead (get_or xs (suc n) 0) ≡ true → is_lead (get_or xs n 0) ≡ false
unfolding AreJoined
lead_after zero (a ∷ b ∷ xs) joined last = grind arith
lead_after (suc n) (a ∷ b ∷ xs) joined last = lead_after n (b ∷ xs) joined.1 last
lead_after n xs joined last = grind arith

module _ (bytes source : List ℕ) (at : ℕ) (lies : N.LiesIn bytes source) (there : at + 16 < N.length source)
    (first : N.is_trail (get_or source at 0) ≡ false) (n : ℕ) (within : at + n ≤ N.length bytes)
    (few : n ≤ N.prefix_len N.is_joined (N.pairs_at at source)) where
  most : n ≤ 16
  most = grind (arith, N.LaneMasks.pairs_most)

  text_of : (k : ℕ) → k ≤ n → ((j : ℕ) → k ≡ suc j → is_lead (get_or (drop at source) j 0) ≡ false) → AreUnquoted bytes at k
  text_of k less last =
      let text = joined_text k (drop at source) (grind (arith, joined_at)) (grind (arith, N.get_or-drop)) last in
      let alike = N.LaneMasks.front_alike bytes source at k 16 lies (omega (arith, most)) (omega arith)
      ∙ N.take-take k 16 (drop at source) (omega (arith, most)) in
      record { within = omega arith; whole = rw alike text.0; unquoted = rw alike text.1 }

  last_at : (k : ℕ) → n ≡ suc k → get_or (drop at source) k 0 ≡ get_or source (at + n - 1) 0
  last_at = grind (arith, N.get_or-drop)

  -- the first bytes of a run up to one that begins no character of two bytes are text
  pub run_text : (0 < n → is_lead (get_or source (at + n - 1) 0) ≡ false) → AreUnquoted bytes at n
  run_text last = text_of n (omega arith) (grind (arith, last_at))

  -- so are those before one that does
  pub run_text_before : 0 < n → is_lead (get_or source (at + n - 1) 0) ≡ true → AreUnquoted bytes at (n - 1)
  run_text_before some last = text_of (n - 1) (omega arith) (grind (arith, lead_after, joined_at, last_at))
