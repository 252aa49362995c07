-- Bytes that are looked at 16 at a time.
use Rattle.std.specs.Prelude.{◌≡◌, ℕ, ◌+◌, ◌≤◌, ◌==◌, ◌&&◌, ⊤, Bool, true, not, nat_lt, if◌then◌else◌, List, [], ◌∷◌, length, take}
use Rattle.tds_text.specs.Quoting.{quote}
use lib.Count.{count_trailing_zeros}

-- no quote
abbrev pub is_unquoted : ℕ → Bool
is_unquoted b = not (b == quote)

-- below a limit, and no quote
abbrev pub is_below : ℕ → ℕ → Bool
is_below limit n = nat_lt n limit && not (n == quote)

-- of ASCII, and no quote
abbrev pub is_plain : ℕ → Bool
is_plain b = is_below 128 b

-- Each of the bytes is of ASCII, and none is a quote.
abbrev pub ArePlain : List ℕ → Type 0
ArePlain [] = ⊤
ArePlain (b ∷ bytes) = (is_plain b ≡ true) × ArePlain bytes

-- the lowest bit that is set in the mask of lanes, or their number
abbrev pub first_set : ℕ → ℕ → ℕ
first_set mask lanes = if mask == 0 then lanes else count_trailing_zeros 64 mask

-- the low bytes of units, low byte first
abbrev pub evens : List ℕ → List ℕ
evens [] = []
evens (low ∷ []) = []
evens (low ∷ high ∷ bytes) = low ∷ evens bytes

-- The bytes lie at the front of these, after which others may lie.
pub record LiesIn (bytes source : List ℕ) : Type 0 where
  pub within : length bytes ≤ length source
  pub front : take (length bytes) source ≡ bytes

-- The place is in the bytes or at their end, and they lie at the front of a source that has so many bytes from the place on.
pub record LiesAhead (bytes source : List ℕ) (at n : ℕ) : Type 0 where
  pub from : at ≤ length bytes
  pub lies : LiesIn bytes source
  pub there : at + n ≤ length source
