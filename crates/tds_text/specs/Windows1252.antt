-- Text in the code page Windows-1252 (bestfit1252.txt of the Unicode consortium, where 81, 8D, 8F, 90 and 9D stand for themselves).
use Rattle.std.specs.Prelude.{◌≡◌, ℕ, ◌-◌, ◌*◌, ◌≤◌, nat_lt, ◌&&◌, nat_le, List, [], ◌∷◌, map, slice_index, if◌then◌else◌, encode_utf8_all, take, ⊤}
use Rattle.tds_text.specs.Quoting.{doubled}

-- the characters of the bytes 80 to 9F
abbrev pub upper_controls : List ℕ
upper_controls =
    0x20AC ∷ 0x0081 ∷ 0x201A ∷ 0x0192 ∷ 0x201E ∷ 0x2026 ∷ 0x2020 ∷ 0x2021 ∷ 0x02C6 ∷ 0x2030 ∷ 0x0160 ∷ 0x2039 ∷ 0x0152 ∷ 0x008D ∷ 0x017D ∷ 0x008F
    ∷ 0x0090 ∷ 0x2018 ∷ 0x2019 ∷ 0x201C ∷ 0x201D ∷ 0x2022 ∷ 0x2013 ∷ 0x2014 ∷ 0x02DC ∷ 0x2122 ∷ 0x0161 ∷ 0x203A ∷ 0x0153 ∷ 0x009D ∷ 0x017E ∷ 0x0178 ∷
    []

-- the character of a byte
abbrev pub character : ℕ → ℕ
character b = if nat_le 0x80 b && nat_lt b 0xA0 then slice_index upper_controls (b - 0x80) else b

-- any bytes are fit
abbrev pub IsFit : List ℕ → Type 0
IsFit bytes = ⊤

-- each byte is converted by itself, so nothing depends on what follows
abbrev pub rest : List ℕ → List ℕ
rest bytes = []

-- the characters in UTF-8, with quotes doubled
abbrev pub text : List ℕ → List ℕ
text bytes = doubled (encode_utf8_all (map character bytes))

-- A number of the first bytes were converted, and their text, of this length, is at the front of a room.
pub record Converts (bytes to : List ℕ) (used made : ℕ) : Type 0 where
  pub room : made ≤ 3 * used
  pub text : take made to ≡ text (take used bytes)
