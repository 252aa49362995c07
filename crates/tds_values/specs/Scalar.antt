-- What the bytes of a scalar kind stand for (MS-TDS, Data Type Dependent Data Streams).
use Rattle.std.specs.Prelude.{ℕ, ◌+◌, ◌-◌, ◌==◌, not, ℤ, List, length, drop, slice_index, Option, Some, None, Result, Ok, Err, if◌then◌else◌}
use Rattle.std.specs.Int.{cast_signed, w16, w32}
use Rattle.byteorder.specs.Endian.{little_number}
use Rattle.tds_values.specs.Numbers.{integer_of, money_of}
use Rattle.uuid.specs.Parts.{swap_fields}
use Rattle.tds_values.specs.declared.kind.Kind.{Kind}
use Rattle.tds_values.specs.declared.kind.Kind.TheVariants as kinds
use Rattle.tds_values.specs.declared.scalar.ScalarValue.{ScalarValue}
use Rattle.tds_values.specs.declared.scalar.ScalarValue.TheVariants as values
use Rattle.tds_values.specs.declared.scalar.ValueFault.{ValueFault}
use Rattle.tds_values.specs.declared.scalar.ValueFault.TheVariants as faults
use Rattle.tds_values.specs.Kind.{is_length_allowed}
use Rattle.tds_values.specs.TimeOfDay.{time_length}
use Rattle.tds_values.specs.ScalarRange.{is_in_range}

-- a sign byte, which is 0 for a negative number, and a magnitude
abbrev pub decimal_of : ℕ → List ℕ → ScalarValue
decimal_of scale bytes =
    values.Decimal (slice_index bytes 0 == 0) (little_number (length bytes - 1) (drop 1 bytes)) scale

-- smalldatetime in 4 bytes, datetime in 8
abbrev pub datetime_of : ℕ → List ℕ → ScalarValue
datetime_of n bytes =
    if n == 4 then values.SmallDateTime (little_number 2 bytes) (little_number 2 (drop 2 bytes))
    else values.DateTime (cast_signed w32 (little_number 4 bytes)) (little_number 4 (drop 4 bytes))

-- the time of day, in the first bytes
abbrev pub time_of : ℕ → List ℕ → ℕ
time_of scale bytes = little_number (time_length scale) bytes

-- the day number, in the three bytes after the time
abbrev pub day_of : ℕ → List ℕ → ℕ
day_of scale bytes = little_number 3 (drop (time_length scale) bytes)

-- the offset, in the two bytes after the day
abbrev pub offset_of : ℕ → List ℕ → ℤ
offset_of scale bytes = cast_signed w16 (little_number 2 (drop (time_length scale + 3) bytes))

-- the fields that the bytes of a scalar kind spell, whatever their range; the long kinds have none
abbrev pub value_of : Kind → List ℕ → Option ScalarValue
value_of kinds.Int1 bytes = Some (values.Integer (integer_of 1 bytes))
value_of kinds.Int2 bytes = Some (values.Integer (integer_of 2 bytes))
value_of kinds.Int4 bytes = Some (values.Integer (integer_of 4 bytes))
value_of kinds.Int8 bytes = Some (values.Integer (integer_of 8 bytes))
value_of (kinds.IntN n) bytes = Some (values.Integer (integer_of n bytes))
value_of kinds.Bit bytes = Some (values.Bit (not (slice_index bytes 0 == 0)))
value_of kinds.BitN bytes = Some (values.Bit (not (slice_index bytes 0 == 0)))
value_of kinds.Money4 bytes = Some (values.Money (money_of 4 bytes))
value_of kinds.Money8 bytes = Some (values.Money (money_of 8 bytes))
value_of (kinds.MoneyN n) bytes = Some (values.Money (money_of n bytes))
value_of kinds.DateTime4 bytes = Some (datetime_of 4 bytes)
value_of kinds.DateTime8 bytes = Some (datetime_of 8 bytes)
value_of (kinds.DateTimeN n) bytes = Some (datetime_of n bytes)
value_of kinds.Guid bytes = Some (values.Guid (swap_fields bytes))
value_of (kinds.Decimal n precision scale) bytes = Some (decimal_of scale bytes)
value_of kinds.Date bytes = Some (values.Date (little_number 3 bytes))
value_of (kinds.Time scale) bytes = Some (values.Time scale (time_of scale bytes))
value_of (kinds.DateTime2 scale) bytes = Some (values.DateTime2 scale (time_of scale bytes) (day_of scale bytes))
value_of (kinds.DateTimeOffset scale) bytes =
    Some (values.DateTimeOffset scale (time_of scale bytes) (day_of scale bytes) (offset_of scale bytes))
value_of _ bytes = None

-- a value in its range, or the fault
abbrev pub checked : Option ScalarValue → Result ScalarValue ValueFault
checked None = Err faults.Length
checked (Some value) = if is_in_range value then Ok value else Err faults.Value

-- the value that bytes of a kind spell, without their length, or why they spell none
abbrev pub read_of : Kind → List ℕ → Result ScalarValue ValueFault
read_of kind bytes = if is_length_allowed kind (length bytes) then checked (value_of kind bytes) else Err faults.Length
