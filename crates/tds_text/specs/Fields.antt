-- The field of a whole value, written to a slice.
use Rattle.std.specs.Prelude.{◌≡◌, ℕ, ◌+◌, ◌*◌, ◌/◌, ◌≤◌, true, List, length, take}
use Rattle.tds_text.specs.declared.fields.Content.{Content}
use Rattle.tds_text.specs.declared.fields.Content.TheVariants.{Binary, Utf16, Windows1252, Utf8}
use Rattle.tds_text.specs.Conversion.{Conversion, HexDigits, Utf16Text, Windows1252Text, Utf8Text, is_fit, long_field}

-- the conversion that reads data so
abbrev pub conversion_of : Content → Conversion
conversion_of Binary = HexDigits
conversion_of Utf16 = Utf16Text
conversion_of Windows1252 = Windows1252Text
conversion_of Utf8 = Utf8Text

-- how many bytes of room the field of so much data may want, 20 of them beside those of its text
abbrev pub field_room : Conversion → ℕ → ℕ
field_room HexDigits n = 2 * n + 20
field_room Utf16Text n = n + n / 2 + 20
field_room Windows1252Text n = 3 * n + 20
field_room Utf8Text n = 2 * n + 20

-- These data are whole, and the first bytes of a room, this number of them, are their field. Two or more are left after it.
pub record IsField (c : Conversion) (bytes to : List ℕ) (made : ℕ) : Type 0 where
  pub whole : is_fit c bytes ≡ true
  pub most : made + 2 ≤ length to
  pub field : take made to ≡ long_field c bytes
