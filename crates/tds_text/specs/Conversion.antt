-- The conversions of the data of long values to text, by name, with tests of their facts.
use Rattle.std.specs.Prelude.{◌≡◌, ◌↔◌, ℕ, ◌==◌, ◌%◌, Bool, true, false, not, List, [], ◌∷◌, ◌++◌, length, is_some}
use Rattle.std.specs.Str.{is_utf8}
use Rattle.std.specs.Str.Lossy.{utf8_error_len}
use Rattle.tds_text.specs.Joining.{emit}
use Rattle.tds_text.specs.Quoting.{quote, quoted_field, binary_mark, binary_field}
use Rattle.tds_text.specs.Binary as binary
use Rattle.tds_text.specs.Windows1252 as windows_1252
use Rattle.tds_text.specs.Utf16 as utf16
use Rattle.tds_text.specs.Utf8 as utf8

-- how the data of a long value becomes text
pub data Conversion : Type 0 where
  HexDigits : Conversion
  Utf16Text : Conversion
  Windows1252Text : Conversion
  Utf8Text : Conversion

-- the data is whole
abbrev pub IsFit : Conversion → List ℕ → Type 0
IsFit HexDigits bytes = binary.IsFit bytes
IsFit Utf16Text bytes = utf16.IsFit bytes
IsFit Windows1252Text bytes = windows_1252.IsFit bytes
IsFit Utf8Text bytes = utf8.IsFit bytes

-- some whole data begins so
abbrev pub BeginsData : Conversion → List ℕ → Type 0
BeginsData HexDigits bytes = binary.IsFit bytes
BeginsData Utf16Text bytes = Unit {0}
BeginsData Windows1252Text bytes = windows_1252.IsFit bytes
BeginsData Utf8Text bytes = utf8.Begins bytes

-- the bytes at the end whose text depends on what follows
abbrev pub conversion_rest : Conversion → List ℕ → List ℕ
conversion_rest HexDigits bytes = binary.rest bytes
conversion_rest Utf16Text bytes = utf16.rest bytes
conversion_rest Windows1252Text bytes = windows_1252.rest bytes
conversion_rest Utf8Text bytes = utf8.rest bytes

-- the text of whole data
abbrev pub conversion_text : Conversion → List ℕ → List ℕ
conversion_text HexDigits bytes = binary.text bytes
conversion_text Utf16Text bytes = utf16.text bytes
conversion_text Windows1252Text bytes = windows_1252.text bytes
conversion_text Utf8Text bytes = utf8.text bytes

-- how many bytes a unit of the data has
abbrev pub unit : Conversion → ℕ
unit Utf16Text = 2
unit conversion = 1

-- the test whether the data is whole
abbrev pub is_fit : Conversion → List ℕ → Bool
is_fit Utf16Text bytes = length bytes % 2 == 0
is_fit Utf8Text bytes = is_utf8 bytes
is_fit conversion bytes = true

-- the test whether some whole data begins so: in UTF-8 std finds no fault after the last whole character
abbrev pub is_begun : Conversion → List ℕ → Bool
is_begun Utf8Text bytes = not (is_some (utf8_error_len (utf8.rest bytes)))
is_begun conversion bytes = true

-- the field of whole data
abbrev pub long_field : Conversion → List ℕ → List ℕ
long_field HexDigits bytes = binary_field (conversion_text HexDigits bytes)
long_field conversion bytes = quoted_field (conversion_text conversion bytes)

-- the field of data that is still open
abbrev pub open_field : Conversion → List ℕ → List ℕ
open_field HexDigits bytes = binary_mark ++ emit (conversion_rest HexDigits) (conversion_text HexDigits) bytes
open_field conversion bytes = quote ∷ emit (conversion_rest conversion) (conversion_text conversion) bytes

-- the field of such data is in quotes
abbrev pub is_quoted : Conversion → Bool
is_quoted HexDigits = false
is_quoted conversion = true

-- what closes a field after the text of its data
abbrev pub closing : Bool → List ℕ
closing true = quote ∷ []
closing false = []

-- A joiner with these facts and texts of its data, units and quotes does this conversion.
pub record Suits (fit begins : List ℕ → Type 0) (rest text : List ℕ → List ℕ) (bytes_of_unit : ℕ) (quoted : Bool) (c : Conversion) : Type 0 where
  pub fit_is : (bytes : List ℕ) → fit bytes ↔ IsFit c bytes
  pub begins_is : (bytes : List ℕ) → begins bytes ↔ BeginsData c bytes
  pub rest_is : (bytes : List ℕ) → rest bytes ≡ conversion_rest c bytes
  pub text_is : (bytes : List ℕ) → text bytes ≡ conversion_text c bytes
  pub unit_is : bytes_of_unit ≡ unit c
  pub quoted_is : quoted ≡ is_quoted c
