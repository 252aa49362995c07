-- The laws of UTF-16 in pieces.
use Rattle.tds_text.proofs as N
use N.{List, arith, false, length, ℕ, ⊤, [], ◌%◌, ◌&&◌, ◌++◌, ◌∙◌, ◌∷◌, ◌≡◌, ◌≤◌}
use N.JoiningLemmas.{HasFronts, emits, ends}
use Rattle.tds_text.specs.Utf16.{units, is_high, IsFit, text, rest}
use Rattle.std.specs.Char.Utf16.{utf16_chars}

-- the first unit is a low surrogate
unfoldable pub starts_low : List ℕ → N.Bool
starts_low [] = false
starts_low (u ∷ us) = N.is_low_surrogate u

-- the first unit is a high surrogate
abbrev starts_high : List ℕ → N.Bool
starts_high [] = false
starts_high (u ∷ us) = N.is_high_surrogate u

-- no pair lies across the seam of two lists of units
abbrev pub Apart : List ℕ → List ℕ → Type 0
Apart [] vs = ⊤
Apart (u ∷ []) vs = (N.is_high_surrogate u && starts_low vs) ≡ false
Apart (u ∷ v ∷ us) vs = Apart (v ∷ us) vs

-- the characters of units that are cut where no pair lies
pub chars-apart : (us vs : List ℕ) → Apart us vs → utf16_chars (us ++ vs) ≡ utf16_chars us ++ utf16_chars vs
unfolding utf16_chars starts_low
chars-apart [] vs h = N.refl
chars-apart (u ∷ []) [] h = N.refl
chars-apart (u ∷ []) (v ∷ vs) h = grind arith
chars-apart (u ∷ v ∷ us) vs h = grind (arith, chars-apart us vs (grind arith), chars-apart (v ∷ us) vs h)

high_is_not_low : (u : ℕ) → N.is_high_surrogate u ≡ N.true → N.is_low_surrogate u ≡ false
high_is_not_low = grind arith

-- the bytes before the rest
abbrev pub front : List ℕ → List ℕ
front [] = []
front (odd ∷ []) = []
front (low ∷ high ∷ []) = N.cond (is_high low high) [] (low ∷ high ∷ [])
front (low ∷ high ∷ odd ∷ []) = N.cond (is_high low high) [] (low ∷ high ∷ [])
front (low ∷ high ∷ low' ∷ high' ∷ bytes) = low ∷ high ∷ front (low' ∷ high' ∷ bytes)

-- a unit that is no high surrogate is settled, whatever follows
pub front_step : (low high : ℕ) (bytes : List ℕ) → is_high low high ≡ false → front (low ∷ high ∷ bytes) ≡ low ∷ high ∷ front bytes
front_step = grind arith

-- bytes and what follows them, seen from the bytes that are withheld
record Seam (a b : List ℕ) : Type 0 where
  whole : a ≡ front a ++ rest a
  rest_is : rest (a ++ b) ≡ rest (rest a ++ b)
  front_is : front (a ++ b) ≡ front a ++ front (rest a ++ b)
  units_are : units (front a ++ b) ≡ units (front a) ++ units b
  even : length (front a) % 2 ≡ 0
  few : length (rest a) ≤ 3

seam : (a b : List ℕ) → Seam a b
seam (low ∷ high ∷ low' ∷ high' ∷ bytes) b = let more = seam (low' ∷ high' ∷ bytes) b in grind arith
seam a b = grind arith

-- no pair lies across the end of the front, where no low surrogate comes first after a rest that begins with a high one
Apart-front : (a vs : List ℕ) → (starts_high (units (rest a)) ≡ N.true → starts_low vs ≡ false) → Apart (units (front a)) vs
Apart-front (low ∷ high ∷ low' ∷ high' ∷ bytes) vs f = grind (arith, Apart-front (low' ∷ high' ∷ bytes) vs f)
Apart-front a vs f = grind arith

-- the text of units
abbrev spelled : List ℕ → List ℕ
spelled us = N.doubled (N.encode_utf8_all (N.utf16_lossy_chars us))

text-front : (a b : List ℕ) → Apart (units (front a)) (units b) → text (front a ++ b) ≡ text (front a) ++ text b
text-front a b h = N.ap spelled (seam a b).units_are ∙ texts (units (front a)) (units b) h
  where
    texts : (us vs : List ℕ) → Apart us vs → spelled (us ++ vs) ≡ spelled us ++ spelled vs
    texts = grind (arith, chars-apart, N.map-append, N.encodes-append, N.JoiningLemmas.doubled-append)

pub fronts : HasFronts rest text front
unfolding starts_low
fronts = record {
  whole = λ a. (seam a []).whole;
  front_is = grind (arith, seam);
  more = λ a b. text-front a (front (rest a ++ b)) (Apart-front a (units (front (rest a ++ b))) (grind (arith, high_is_not_low)));
  last = λ a. text-front a (rest a) (Apart-front a (units (rest a)) (grind (arith, high_is_not_low)));
}

pub short : (a : List ℕ) → length (rest a) ≤ 3
short a = (seam a []).few

-- bytes are whole units just where their rest is
parts : (bytes : List ℕ) → length bytes % 2 ≡ length (rest bytes) % 2
parts bytes = let whole = (seam bytes []).even in omega (arith, N.ap length (seam bytes []).whole, N.length-append (front bytes) (rest bytes))

-- text in UTF-16 may come in pieces
pub joins_utf16 : N.JoinsPieces IsFit (λ _. ⊤) rest text
joins_utf16 = record {
  emits = λ a b _. emits fronts a b;
  keeps = grind (arith, seam);
  short = λ a _. short a;
  ends = λ a _. ends fronts a;
  fit_rest = λ a whole. N.sym (parts a) ∙ whole;
  fit_whole = λ a _ whole. parts a ∙ whole;
  front = λ _ _ _. tt;
  inward = λ _ _ _. tt;
  outward = λ _ _ _. tt;
}
