-- Text in UTF-8 (Unicode 3.9, definition D92).
use Rattle.std.specs.Prelude.{ℕ, List, ◌++◌, drop, IsUtf8}
use Rattle.std.specs.Str.Lossy.{utf8_valid_len}
use Rattle.tds_text.specs.Quoting.{doubled}

-- whole characters
abbrev pub IsFit : List ℕ → Type 0
IsFit bytes = IsUtf8 bytes

-- some text begins with these bytes
abbrev pub Begins : List ℕ → Type 0
Begins bytes = (more : List ℕ) × IsUtf8 (bytes ++ more)

-- what follows the last whole character
abbrev pub rest : List ℕ → List ℕ
rest bytes = drop (utf8_valid_len bytes) bytes

-- the same bytes, with quotes doubled
abbrev pub text : List ℕ → List ℕ
text bytes = doubled bytes
