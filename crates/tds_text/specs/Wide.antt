-- Characters in UTF-16 that are one unit, by the bytes that they have in UTF-8 (RFC 3629, section 3).
use Rattle.std.specs.Prelude.{◌≡◌, ℕ, ◌+◌, ◌*◌, ◌/◌, ◌%◌, ◌<◌, ◌≤◌, ◌==◌, ◌||◌, Bool, false, not, nat_lt, if◌then◌else◌, List, [], ◌∷◌, ◌++◌, flat_map, length}
use Rattle.std.specs.Prelude.{map, take}
use lib.Lanes.{Each1, mask_l}
use Rattle.std.specs.Char.{encode_utf8}
use Rattle.std.specs.Char.Utf16.{is_high_surrogate, is_low_surrogate}
use Rattle.tds_text.specs.Plain.{is_plain}
use Rattle.tds_text.specs.Quoting.{doubled, quote}

-- the text of a unit that is a character
abbrev pub unit_text : ℕ → List ℕ
unit_text unit = doubled (encode_utf8 unit)

-- the text of such units
abbrev pub units_text : List ℕ → List ℕ
units_text units = flat_map unit_text units

-- its text has more than one byte
abbrev pub is_wide : ℕ → Bool
is_wide unit = not (is_plain unit)

-- its text has three bytes, or it is a surrogate
abbrev pub is_long : ℕ → Bool
is_long unit = not (nat_lt unit 2048)

-- it is a surrogate, one half of a character
abbrev pub is_half : ℕ → Bool
is_half unit = is_high_surrogate unit || is_low_surrogate unit

-- it isn't the one unit of a character whose text has three bytes
abbrev pub is_other : ℕ → Bool
is_other unit = not (is_long unit) || is_half unit

-- the two bytes of a text of two as a number, low byte first, or the byte of a text of one
abbrev pub pair : ℕ → ℕ
pair unit = if unit == quote then quote + 256 * quote else if nat_lt unit 128 then unit else (192 + unit / 64) + 256 * (128 + unit % 64)

-- the low and the high byte of a number
abbrev pub low_and_high : ℕ → List ℕ
low_and_high number = (number % 256) ∷ (number / 256 % 256) ∷ []

-- the bytes of that number
abbrev pub pair_bytes : ℕ → List ℕ
pair_bytes unit = low_and_high (pair unit)

-- two numbers of which each has two bytes, low byte first: the first byte of a text of one, the last of others, the first of a text of three, and
-- that before the last
abbrev pub low_quad : ℕ → ℕ
low_quad unit = if unit == quote then quote + 256 * quote else unit % 256 + 256 * (128 + unit % 64)

abbrev pub high_quad : ℕ → ℕ
high_quad unit = if unit == quote then quote + 256 * quote else (224 + unit / 4096) + 256 * ((if nat_lt unit 2048 then 192 else 128) + unit / 64 % 64)

-- their bytes
abbrev pub quad_bytes : ℕ → List ℕ
quad_bytes unit = (low_quad unit % 256) ∷ (low_quad unit / 256 % 256) ∷ (high_quad unit % 256) ∷ (high_quad unit / 256 % 256) ∷ []

-- The text of any characters, so many, whose bytes come first among these, and with these masks of the wide and the long ones, was added to what was
-- before a place.
pub record AddsQuads (old new : List ℕ) (from to n : ℕ) (quads : List ℕ) (wide long : ℕ) : Type 0 where
  pub adds : (units more : List ℕ) → length units ≡ n → quads ≡ flat_map quad_bytes units ++ more → wide ≡ mask_l (map is_wide units)
      → long ≡ mask_l (map is_long units) → Each1 (λ u. u < 65536) units
      → (take to new ≡ take from old ++ units_text units) × (to ≤ from + 3 * n)

-- The text of the first units, so many, was added to what was before a place, at most three bytes for each; none of them is half of a character.
pub record AddsUnits (old new : List ℕ) (from to n : ℕ) (units : List ℕ) : Type 0 where
  pub most : to ≤ from + 3 * n
  pub written : take to new ≡ take from old ++ units_text (take n units)
  pub single : Each1 (λ u. is_half u ≡ false) (take n units)

-- the bytes of long characters
abbrev pub triples : List ℕ → List ℕ
triples [] = []
triples (unit ∷ units) = (224 + unit / 4096) ∷ (128 + unit / 64 % 64) ∷ (128 + unit % 64) ∷ triples units
