-- Conversions that were worked out by hand.
use Rattle.tds_text.proofs as N
use N.{arith, ◌≡◌, [], ◌∷◌, ◌++◌, refl, codes, emit, quoted_field}
use N.Utf8Laws.{begins_none, none_begins}
use Rattle.tds_values.proofs.HexTexts.{hex}
use Rattle.std.specs.Char.{encode_utf8}
use Rattle.std.specs.Char.Utf16.{utf16_chars}
use Rattle.std.specs.Str.{is_utf8, chars}
use Rattle.std.specs.Str.Lossy.{utf8_valid_len, utf8_error_len}
use Rattle.hex.specs.Hex.{encode_with}
use Rattle.tds_text.specs.Binary as binary
use Rattle.tds_text.specs.Windows1252 as windows_1252
use Rattle.tds_text.specs.Utf16 as utf16
use Rattle.tds_text.specs.Utf8 as utf8

utf16_rows :
    -- a name of the units 22 00, 3D D8, 00 DE and 00 D8
    (quoted_field (utf16.text (hex "22 00 3D D8 00 DE 00 D8")) ≡ hex "22 22 22 F0 9F 98 80 EF BF BD 22")
    -- a pair in three pieces, and its text as a field
    × (emit utf16.rest utf16.text (hex "3D") ≡ [])
    × (emit utf16.rest utf16.text (utf16.rest (hex "3D") ++ hex "D8 00") ≡ [])
    × (emit utf16.rest utf16.text (utf16.rest (hex "3D D8 00") ++ hex "DE") ≡ hex "F0 9F 98 80")
    × (utf16.rest (hex "3D D8 00 DE") ≡ [])
    × (quoted_field (utf16.text (hex "3D D8 00 DE")) ≡ hex "22 F0 9F 98 80 22")
    × (utf16.rest (hex "41") ≡ hex "41")
    -- a high surrogate at the end of a value
    × (utf16.rest (hex "3D D8") ≡ hex "3D D8")
    × (quoted_field (utf16.text (hex "3D D8")) ≡ hex "22 EF BF BD 22")
    -- D800, A, DC00
    × (quoted_field (utf16.text (hex "00 D8 41 00 00 DC")) ≡ hex "22 EF BF BD 41 EF BF BD 22")
unfolding utf16_chars encode_utf8
utf16_rows = grind arith

windows_1252_rows :
    -- the euro sign, a quote, and e with an acute accent
    (quoted_field (windows_1252.text (hex "80 22 E9")) ≡ hex "22 E2 82 AC 22 22 C3 A9 22")
    × (quoted_field (windows_1252.text []) ≡ codes "\"\"")
    -- a byte that has no character, and one that has
    × (windows_1252.text (hex "81 9F") ≡ hex "C2 81 C5 B8")
unfolding encode_utf8
windows_1252_rows = grind arith

hexadecimal_rows : (N.binary_field (binary.text (hex "0A FF")) ≡ codes "0x0aff") × (N.binary_field (binary.text []) ≡ codes "0x")
unfolding encode_with
hexadecimal_rows = (refl, refl)

record_line : N.line (codes "NULL" ∷ codes "42" ∷ []) ≡ codes "NULL,42\r\n"
record_line = refl

utf8_rows : (quoted_field (utf8.text (hex "C3 A9 22 F0 9F 98 80")) ≡ hex "22 C3 A9 22 22 F0 9F 98 80 22") × (utf8.rest (hex "41 F0 9F 98") ≡ hex "F0 9F 98")
    × (emit utf8.rest utf8.text (hex "C3 A9 22 F0") ≡ hex "C3 A9 22 22") × (emit utf8.rest utf8.text (hex "C3") ≡ [])
    × (emit utf8.rest utf8.text (hex "C3 A9") ≡ hex "C3 A9") × (emit utf8.rest utf8.text (hex "41 ED") ≡ hex "41")
unfolding utf8_valid_len is_utf8 chars encode_utf8
utf8_rows = grind arith

-- what begins a text, and what doesn't: a surrogate, an overlong form, and a character that isn't whole
utf8_begun : utf8.Begins (hex "41 ED") × utf8.Begins (hex "C3")
unfolding utf8_valid_len utf8_error_len is_utf8 chars encode_utf8
utf8_begun = (none_begins (hex "41 ED") refl, none_begins (hex "C3") refl)

utf8_refused : (utf8.Begins (hex "41 ED A0") → ⊥) × (utf8.Begins (hex "C0") → ⊥) × (utf8.IsFit (hex "C3") → ⊥)
unfolding utf8_valid_len utf8_error_len is_utf8 chars encode_utf8
utf8_refused = (
  λ h. let e = begins_none (hex "41 ED A0") h in cc,
  λ h. let e = begins_none (hex "C0") h in cc,
  λ u. let e = N.is_utf8-from_IsUtf8 (hex "C3") u in cc,
)
