-- Times of day, in units of a scale: 10 ^ -scale seconds since midnight (MS-TDS, Date/Times).
use Rattle.std.specs.Prelude.{ℕ, ◌*◌, ◌^◌, ◌<◌, ◌≤◌, nat_lt, nat_le, ◌&&◌, Bool, if◌then◌else◌}

-- how many bytes a time of day takes at a scale (MS-TDS, Date/Times)
abbrev pub time_length : ℕ → ℕ
time_length scale = if nat_lt scale 3 then 3 else if nat_lt scale 5 then 4 else 5

-- how many units of a scale a second has
abbrev pub units_per_second : ℕ → ℕ
units_per_second scale = 10 ^ scale

-- how many units of a scale a day has
abbrev pub units_per_day : ℕ → ℕ
units_per_day scale = 86400 * units_per_second scale

-- the whole seconds of a time of day, and the scale of the fraction after them
abbrev pub IsClockTime : ℕ → ℕ → Type 0
IsClockTime seconds scale = (seconds < 86400) × (scale ≤ 7)

-- a number of units since midnight is a time of day
abbrev pub is_time : ℕ → ℕ → Bool
is_time scale units = nat_le scale 7 && nat_lt units (units_per_day scale)
