-- Text in UTF-8 whose characters have one or two bytes (Unicode, table 3-7), looked at a byte with the next one.
use Rattle.std.specs.Prelude.{ℕ, ◌+◌, ◌&&◌, ◌||◌, Bool, not, if◌then◌else◌, List}
use Rattle.std.specs.Int.{is_in_range}
use lib.Lanes.{chunk, zip2}
use Rattle.tds_text.specs.Plain.{is_plain}

-- it begins a character of two bytes
abbrev pub is_lead : ℕ → Bool
is_lead b = is_in_range 0xC2 0xDF b

-- it goes on with a character
abbrev pub is_trail : ℕ → Bool
is_trail b = is_in_range 0x80 0xBF b

-- A byte and the next one go on with such a text without a quote: one goes on with a character just where the first begins one.
abbrev pub is_joined : ℕ × ℕ → Bool
is_joined (b, next) = if is_lead b then is_trail next else (is_plain b || is_trail b) && not (is_trail next)

-- the next 16 bytes at a place, each with the byte after it
abbrev pub pairs_at : ℕ → List ℕ → List (ℕ × ℕ)
pairs_at at bytes = zip2 (λ b next. (b, next)) (chunk at 16 bytes) (chunk (at + 1) 16 bytes)
