-- Local times. An offset is the minutes by which local time is ahead of UTC.
use Rattle.std.specs.Prelude.{ℕ, ◌+◌, ◌-◌, ◌*◌, Bool, nat_lt, nat_le, ℤ, pos, int_lt, unsigned_abs, Option, Some, None, if◌then◌else◌}
use Rattle.tds_values.specs.TimeOfDay.{units_per_second, units_per_day}

-- the day number of 9999-12-31, if that of 0001-01-01 is 0
abbrev pub last_day : ℕ
last_day = 3652058

-- a UTC time and day, in units since 0001-01-01 00:00:00
abbrev pub utc_units : ℕ → ℕ → ℕ → ℕ
utc_units scale units day = day * units_per_day scale + units

-- how many units an offset is, whatever its sign
abbrev pub offset_units : ℕ → ℤ → ℕ
offset_units scale offset = unsigned_abs offset * (60 * units_per_second scale)

-- the local time, in units since 0001-01-01 00:00:00
abbrev pub local_units : ℕ → ℕ → ℕ → ℤ → ℕ
local_units scale units day offset =
    if int_lt offset (pos 0) then utc_units scale units day - offset_units scale offset
    else utc_units scale units day + offset_units scale offset

-- the local time is in the years 1 to 9999
abbrev pub is_local : ℕ → ℕ → ℕ → ℤ → Bool
is_local scale units day offset =
    if int_lt offset (pos 0) then nat_le (offset_units scale offset) (utc_units scale units day)
    else nat_lt (utc_units scale units day + offset_units scale offset) ((last_day + 1) * units_per_day scale)

-- the local time of a UTC time and day in whole seconds, if it is in the years 1 to 9999
abbrev pub local_seconds : ℕ → ℕ → ℤ → Option ℕ
local_seconds seconds day offset =
    if is_local 0 seconds day offset then Some (local_units 0 seconds day offset) else None
