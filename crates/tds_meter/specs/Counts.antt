-- Counts of calls that stay at the greatest number once there.
use Rattle.std.specs.Prelude.{◌≡◌, ◌⊎◌, ℕ, ◌+◌, ◌-◌, ◌^◌, ◌<◌, ◌≤◌, min}

-- the greatest count
abbrev pub last_count : ℕ
last_count = 2 ^ 64 - 1

-- this many more, unless that passes the greatest count
abbrev pub counted : ℕ → ℕ → ℕ
counted n more = min (n + more) last_count

-- one more, unless the count is the greatest
abbrev pub one_more : ℕ → ℕ
one_more n = counted n 1

-- The count rose, or it is the greatest, at which each call counts.
abbrev pub Rose : ℕ → ℕ → Type 0
Rose before after = (before < after) ⊎ ((last_count ≤ before) × (after ≡ last_count))
