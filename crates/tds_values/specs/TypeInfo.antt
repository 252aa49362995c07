-- TYPE_INFO: a type byte, and the bytes that describe it further (MS-TDS, Type Info Rule Definition).
use Rattle.std.specs.Prelude.{◌≡◌, ℕ, ◌==◌, ◌||◌, ◌&&◌, Bool, List, [], ◌∷◌, length, slice_index, Option, Some, None, if◌then◌else◌, option_and_then}
use Rattle.std.specs.Prelude.{is_some}
use Rattle.byteorder.specs.Endian.{little_number}
use Rattle.tds_values.specs.declared.kind.Kind.{Kind}
use Rattle.tds_values.specs.declared.kind.Kind.TheVariants as kinds
use Rattle.tds_values.specs.declared.kind.Reach.{Reach}
use Rattle.tds_values.specs.declared.kind.Reach.TheVariants.{Short, Chunked}
use Rattle.tds_values.specs.Kind.{is_valid}

-- the kind of a type byte after which nothing follows
abbrev pub bare_kind : ℕ → Option Kind
bare_kind b =
    if b == 0x30 then Some kinds.Int1
    else if b == 0x32 then Some kinds.Bit
    else if b == 0x34 then Some kinds.Int2
    else if b == 0x38 then Some kinds.Int4
    else if b == 0x7F then Some kinds.Int8
    else if b == 0x3A then Some kinds.DateTime4
    else if b == 0x3D then Some kinds.DateTime8
    else if b == 0x7A then Some kinds.Money4
    else if b == 0x3C then Some kinds.Money8
    else if b == 0x28 then Some kinds.Date
    else None

-- the kind of a type byte and the one number after it: a length or a scale
abbrev pub sized_kind : ℕ → ℕ → Option Kind
sized_kind b n =
    if b == 0x24 then (if n == 16 then Some kinds.Guid else None)
    else if b == 0x26 then Some (kinds.IntN n)
    else if b == 0x68 then (if n == 1 then Some kinds.BitN else None)
    else if b == 0x6E then Some (kinds.MoneyN n)
    else if b == 0x6F then Some (kinds.DateTimeN n)
    else if b == 0x29 then Some (kinds.Time n)
    else if b == 0x2A then Some (kinds.DateTime2 n)
    else if b == 0x2B then Some (kinds.DateTimeOffset n)
    else None

-- DECIMALN and NUMERICN, with a length, a precision and a scale
abbrev pub is_decimal_type : ℕ → Bool
is_decimal_type b = b == 0x6A || b == 0x6C

-- the types of fixed width, BIGBINARY, BIGCHAR and NCHAR, whose values are never chunked
abbrev pub is_padded_type : ℕ → Bool
is_padded_type b = b == 0xAD || b == 0xAF || b == 0xEF

-- whether values are chunked: the described length 0xFFFF says so
abbrev pub reach_of : ℕ → Reach
reach_of described = if described == 0xFFFF then Chunked else Short

-- the kind of a type byte with a described length of two bytes
abbrev pub long_kind : ℕ → ℕ → Option Kind
long_kind b described =
    if is_padded_type b && described == 0xFFFF then None
    else if b == 0xA5 || b == 0xAD then Some (kinds.Binary (reach_of described))
    else if b == 0xA7 || b == 0xAF then Some (kinds.Narrow (reach_of described))
    else if b == 0xE7 || b == 0xEF then Some (kinds.Wide (reach_of described))
    else None

-- how many bytes follow a type byte: none, a number, three numbers, a length, or a length and a collation
unfoldable pub rest_length : ℕ → Option ℕ
rest_length b =
    if is_some (bare_kind b) then Some 0
    else if b == 0x24 || b == 0x26 || b == 0x68 || b == 0x6E || b == 0x6F || b == 0x29 || b == 0x2A || b == 0x2B then Some 1
    else if is_decimal_type b then Some 3
    else if b == 0xA5 || b == 0xAD then Some 2
    else if b == 0xA7 || b == 0xAF || b == 0xE7 || b == 0xEF then Some 7
    else None

-- the kind that a type byte and as many bytes as its rest has name, whatever the numbers are
unfoldable pub named_kind : ℕ → List ℕ → Option Kind
named_kind b rest =
    if length rest == 0 then bare_kind b
    else if length rest == 1 then sized_kind b (slice_index rest 0)
    else if length rest == 3 then Some (kinds.Decimal (slice_index rest 0) (slice_index rest 1) (slice_index rest 2))
    else long_kind b (little_number 2 rest)

-- a kind whose numbers are allowed, and none otherwise
abbrev pub valid_kind : Kind → Option Kind
valid_kind kind = if is_valid kind then Some kind else None

-- the same bytes, if they are all that the type byte needs
abbrev pub kind_after : ℕ → List ℕ → Option ℕ → Option Kind
kind_after b rest None = None
kind_after b rest (Some n) = if length rest == n then option_and_then valid_kind (named_kind b rest) else None

-- the kind that a TYPE_INFO describes, and none if the bytes are no TYPE_INFO
abbrev pub kind_of : List ℕ → Option Kind
kind_of [] = None
kind_of (b ∷ rest) = kind_after b rest (rest_length b)

-- the bytes are a TYPE_INFO of the kind
abbrev pub IsTypeInfo : Kind → List ℕ → Type 0
IsTypeInfo kind bytes = kind_of bytes ≡ Some kind
