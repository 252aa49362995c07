-- The steps through text in UTF-16.
use Rattle.std.specs.Prelude.{◌≡◌, ℕ, ◌+◌, ◌-◌, ◌*◌, ◌%◌, ◌<◌, ◌≤◌, false, List, [], ◌∷◌, ◌++◌, length, drop, take}
use Rattle.std.specs.Char.{IsScalar, encode_utf8}
use Rattle.tds_text.specs.Joining.{Leads, emit}
use Rattle.tds_text.specs.Plain.{LiesIn}
use Rattle.tds_text.specs.Quoting.{doubled}
use Rattle.tds_text.specs.Utf16.{characters, rest, text, units}
use Rattle.tds_text.specs.Wide.{is_wide}
use Rattle.tds_values.specs.declared.span.Span.{Span}
use lib.Lanes.{Each1, chunk}

-- a number of the first bytes are this character, whatever follows
pub record IsNext (bytes : List ℕ) (code len : ℕ) : Type 0 where
  pub emits : emit rest text bytes ≡ doubled (encode_utf8 code) ++ emit rest text (drop len bytes)
  pub keeps : rest bytes ≡ rest (drop len bytes)
  pub spells : characters bytes ≡ encode_utf8 code ++ characters (drop len bytes)

-- This is the code of a character, in this number of bytes of whole units, four or more if the code is above 65,535.
pub record IsCharacter (code len : ℕ) : Type 0 where
  pub scalar : IsScalar code
  pub range : code < 1114112
  pub some : 2 ≤ len
  pub even : len % 2 ≡ 0
  pub long : len < 4 → code < 65536

-- The bytes before this place were converted, and the room so far holds their text.
pub record Converts (bytes to : List ℕ) (used made : ℕ) : Type 0 where
  pub within : used ≤ length bytes
  pub room : 2 * made ≤ 3 * used
  pub leads : Leads rest text bytes (drop used bytes) (take made to)

-- The bytes before this place were converted to the front of a room that is long enough for all, and may be followed in the source.
pub record ConvertsIn (bytes source to : List ℕ) (used made : ℕ) : Type 0 where
  pub inside : LiesIn bytes source
  pub long : 3 * length bytes + 32 ≤ 2 * length to
  pub before : Converts bytes to used made

-- The bytes before a place were converted, and that place does not come before this one.
pub record GoesOn (bytes to : List ℕ) (from : ℕ) (done : Span) : Type 0 where
  pub more : from ≤ done.used
  pub after : Converts bytes to done.used done.made

-- The bytes before the first place were converted, and there is room for one byte of text for each unit from it up to the end.
pub record MayConvertSingles (bytes to : List ℕ) (from end start : ℕ) : Type 0 where
  pub before : Converts bytes to from start
  pub more : from ≤ end
  pub within : end ≤ length bytes
  pub room : end - from + 2 * start ≤ 2 * length to

-- The bytes before a place up to the end were converted, those from the first place on to one byte of text for each unit.
pub record ConvertsSingles (bytes to : List ℕ) (from end start : ℕ) (done : Span) : Type 0 where
  pub goes_on : GoesOn bytes to from done
  pub within : done.used ≤ end
  pub single : done.used + 2 * start ≡ from + 2 * done.made

-- If sixteen units come before the end from this place on, one of them is a quote or not of ASCII.
abbrev pub StopsAtWide : List ℕ → ℕ → ℕ → Type 0
StopsAtWide bytes at end = at + 32 ≤ end → Each1 (λ u. is_wide u ≡ false) (units (chunk at 32 bytes)) → ⊥

-- What comes after this place is the rest of the bytes from another place on.
pub record LeavesRest (bytes : List ℕ) (from at : ℕ) : Type 0 where
  pub within : at ≤ length bytes
  pub rest : drop at bytes ≡ rest (drop from bytes)
  pub most : length bytes ≤ at + 3

-- the withheld bytes with three of the piece, if any are withheld
abbrev pub seam : List ℕ → List ℕ → List ℕ
seam [] piece = []
seam (byte ∷ kept) piece = byte ∷ kept ++ take 3 piece
