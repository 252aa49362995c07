-- What the numbers of a kind allow (MS-TDS, Data Type Definitions).
use Rattle.std.specs.Prelude.{ℕ, ◌+◌, ◌%◌, ◌==◌, nat_le, ◌&&◌, ◌||◌, Bool, true, false, Option, Some, None, option_map, unwrap_or}
use Rattle.tds_values.specs.declared.kind.Kind.{Kind}
use Rattle.tds_values.specs.declared.kind.Kind.TheVariants as kinds
use Rattle.tds_values.specs.TimeOfDay.{time_length}

-- the kinds whose values are scalars: all but the long ones
abbrev pub is_scalar : Kind → Bool
is_scalar (kinds.Binary reach) = false
is_scalar (kinds.Narrow reach) = false
is_scalar (kinds.Wide reach) = false
is_scalar _ = true

-- how many bytes each value has if no length precedes it
abbrev pub fixed_length : Kind → Option ℕ
fixed_length kinds.Int1 = Some 1
fixed_length kinds.Int2 = Some 2
fixed_length kinds.Int4 = Some 4
fixed_length kinds.Int8 = Some 8
fixed_length kinds.Bit = Some 1
fixed_length kinds.Money4 = Some 4
fixed_length kinds.Money8 = Some 8
fixed_length kinds.DateTime4 = Some 4
fixed_length kinds.DateTime8 = Some 8
fixed_length _ = None

-- 4 or 8
abbrev pub is_half_or_whole : ℕ → Bool
is_half_or_whole n = n == 4 || n == 8

-- a sign byte and 4, 8, 12 or 16 bytes of magnitude
abbrev pub is_decimal_length : ℕ → Bool
is_decimal_length n = n == 5 || n == 9 || n == 13 || n == 17

-- the numbers that a TYPE_INFO may give this kind
abbrev pub is_valid : Kind → Bool
is_valid (kinds.IntN n) = n == 1 || n == 2 || n == 4 || n == 8
is_valid (kinds.MoneyN n) = is_half_or_whole n
is_valid (kinds.DateTimeN n) = is_half_or_whole n
is_valid (kinds.Decimal n precision scale) =
    is_decimal_length n && nat_le 1 precision && nat_le precision 38 && nat_le scale precision
is_valid (kinds.Time scale) = nat_le scale 7
is_valid (kinds.DateTime2 scale) = nat_le scale 7
is_valid (kinds.DateTimeOffset scale) = nat_le scale 7
is_valid _ = true

-- a value that isn't NULL may have n bytes
abbrev pub is_length_allowed : Kind → ℕ → Bool
is_length_allowed (kinds.IntN described) n = n == described
is_length_allowed kinds.BitN n = n == 1
is_length_allowed (kinds.MoneyN described) n = n == described
is_length_allowed (kinds.DateTimeN described) n = n == described
is_length_allowed kinds.Guid n = n == 16
is_length_allowed (kinds.Decimal described precision scale) n = is_decimal_length n && nat_le n described
is_length_allowed kinds.Date n = n == 3
is_length_allowed (kinds.Time scale) n = n == time_length scale
is_length_allowed (kinds.DateTime2 scale) n = n == time_length scale + 3
is_length_allowed (kinds.DateTimeOffset scale) n = n == time_length scale + 5
is_length_allowed (kinds.Binary reach) n = true
is_length_allowed (kinds.Narrow reach) n = true
is_length_allowed (kinds.Wide reach) n = n % 2 == 0
is_length_allowed kind n = unwrap_or (option_map (λ length. n == length) (fixed_length kind)) false
