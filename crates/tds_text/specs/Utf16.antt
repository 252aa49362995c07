-- Text in UTF-16, low byte first (Unicode 3.9, definition D91; a surrogate without a partner is ill-formed and becomes U+FFFD).
use Rattle.std.specs.Prelude.{◌≡◌, ℕ, ◌+◌, ◌*◌, ◌%◌, List, [], ◌∷◌, length, Bool, if◌then◌else◌, encode_utf8_all}
use Rattle.std.specs.Char.Utf16.{utf16_lossy_chars, is_high_surrogate}
use Rattle.tds_text.specs.Quoting.{doubled}

-- the units of two bytes each; an odd last byte is none
abbrev pub units : List ℕ → List ℕ
units [] = []
units (low ∷ []) = []
units (low ∷ high ∷ bytes) = (low + 256 * high) ∷ units bytes

-- two bytes are a high surrogate
abbrev pub is_high : ℕ → ℕ → Bool
is_high low high = is_high_surrogate (low + 256 * high)

-- whole units
abbrev pub IsFit : List ℕ → Type 0
IsFit bytes = length bytes % 2 ≡ 0

-- the characters in UTF-8, with U+FFFD for each surrogate that has no partner
abbrev pub characters : List ℕ → List ℕ
characters bytes = encode_utf8_all (utf16_lossy_chars (units bytes))

-- those characters with quotes doubled
abbrev pub text : List ℕ → List ℕ
text bytes = doubled (characters bytes)

-- the last whole unit if that is a high surrogate, then the odd last byte if there is one
abbrev pub rest : List ℕ → List ℕ
rest [] = []
rest (odd ∷ []) = odd ∷ []
rest (low ∷ high ∷ []) = if is_high low high then low ∷ high ∷ [] else []
rest (low ∷ high ∷ odd ∷ []) = if is_high low high then low ∷ high ∷ odd ∷ [] else odd ∷ []
rest (low ∷ high ∷ low' ∷ high' ∷ bytes) = rest (low' ∷ high' ∷ bytes)
