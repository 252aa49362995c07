-- Lemmas that the laws of each conversion share.
use Rattle.tds_text.proofs as N
use N.{Leads, List, arith, drop, emit, length, take, ℕ, [], ◌++◌, ◌+◌, ◌-◌, ◌≡◌, ◌≤◌}

-- the quotes of two pieces are doubled in each
pub doubled-append : (x y : List ℕ) → N.doubled (x ++ y) ≡ N.doubled x ++ N.doubled y
doubled-append = N.flat_map-append N.doubled_byte

pub ruleset doubled_runs = (doubled-append, N.take_more, N.take-add)

pub doubled_bytewise : N.IsBytewise N.doubled
doubled_bytewise = grind (arith, doubled-append)

-- what stands before the rest is settled
pub settled_front : (rest : List ℕ → List ℕ) (bytes front : List ℕ) → bytes ≡ front ++ rest bytes → N.settled rest bytes ≡ front
settled_front = grind (arith, N.length-append, N.take_at)

-- ---- conversions of which the bytes before the rest have a text of their own

pub record HasFronts (rest text front : List ℕ → List ℕ) : Type 0 where
  pub whole : (a : List ℕ) → a ≡ front a ++ rest a
  pub front_is : (a b : List ℕ) → front (a ++ b) ≡ front a ++ front (rest a ++ b)
  pub more : (a b : List ℕ) → text (front a ++ front (rest a ++ b)) ≡ text (front a) ++ text (front (rest a ++ b))
  pub last : (a : List ℕ) → text (front a ++ rest a) ≡ text (front a) ++ text (rest a)

module _ {rest text front : List ℕ → List ℕ} (fronts : HasFronts rest text front) where
  pub emit-front : (a : List ℕ) → emit rest text a ≡ text (front a)
  emit-front = grind (arith, N.common_steps, settled_front)

  pub emits : (a b : List ℕ) → emit rest text (a ++ b) ≡ emit rest text a ++ emit rest text (rest a ++ b)
  emits = grind (arith, N.common_steps, emit-front)

  pub ends : (a : List ℕ) → text a ≡ emit rest text a ++ text (rest a)
  ends a = cc (fronts.whole a, fronts.last a, emit-front a)

-- ---- the fixed text of some bytes, put a part after the other

module _ {rest text : List ℕ → List ℕ} where
  pub Leads-none : {xs : List ℕ} → Leads rest text xs xs []
  Leads-none = grind arith

  pub Leads-trans : {xs ys zs p q : List ℕ} → Leads rest text xs ys p → Leads rest text ys zs q → Leads rest text xs zs (p ++ q)
  Leads-trans = grind (arith, N.append_assoc)

-- nothing is fixed where all is withheld
pub emit_held : (rest text : List ℕ → List ℕ) (xs : List ℕ) → text [] ≡ [] → rest xs ≡ xs → emit rest text xs ≡ []
emit_held = grind arith

module _ {rest text : List ℕ → List ℕ} {fit begins : List ℕ → Type 0} (laws : N.JoinsPieces fit begins rest text) where
  -- the rest of the first chunk begins after so many bytes
  Leads-from : (xs chunk more : List ℕ) (used : ℕ) → xs ≡ chunk ++ more → begins xs → used ≤ length chunk → drop used chunk ≡ rest chunk
      → Leads rest text xs (drop used xs) (emit rest text chunk)
  Leads-from = grind (arith, N.drop-append-le)

  -- the first chunk of some bytes
  pub Leads-front : (xs : List ℕ) (n : ℕ) → begins xs → Leads rest text xs (rest (take n xs) ++ drop n xs) (emit rest text (take n xs))
  Leads-front = grind (arith, N.take-append-drop)

  -- one more chunk, whose rest begins after so many bytes
  pub Leads-next : (xs : List ℕ) (at n used : ℕ) → begins (drop at xs) → used ≤ length (take n (drop at xs))
      → drop used (take n (drop at xs)) ≡ rest (take n (drop at xs)) → Leads rest text (drop at xs) (drop (at + used) xs) (emit rest text (take n (drop at xs)))
  Leads-next xs at n used h le e = rw (← N.drop-drop used at xs) (Leads-from (drop at xs) _ _ used (N.sym (N.take-append-drop n (drop at xs))) h le e)

  -- withheld bytes with the first ones of a piece are the first chunk of both
  pub Leads-seam-front : (kept piece : List ℕ) (n : ℕ) → begins (kept ++ piece)
      → Leads rest text (kept ++ piece) (rest (kept ++ take n piece) ++ drop n piece) (emit rest text (kept ++ take n piece))
  Leads-seam-front = grind (arith, N.append_assoc, N.take-append-drop)

  -- and the rest of that chunk begins after so many bytes
  pub Leads-seam : (kept piece bytes : List ℕ) (n used : ℕ) → bytes ≡ kept ++ take n piece → begins (kept ++ piece) → length kept ≤ used
      → used ≤ length bytes → drop used bytes ≡ rest bytes → Leads rest text (kept ++ piece) (drop (used - length kept) piece) (emit rest text bytes)
  Leads-seam kept piece bytes n used is h past within e =
      let split : length kept + (used - length kept) ≡ used = omega arith in
      rw (
        ← N.drop-append-add kept piece (used - length kept),
        split,
      ) (Leads-from _ bytes (drop n piece) used (rw (is, N.append_assoc, N.take-append-drop)) h within e)
