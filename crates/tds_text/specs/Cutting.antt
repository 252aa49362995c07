-- Text that is cut to a room.
use Rattle.std.specs.Prelude.{ℕ, List, take}
use Rattle.std.specs.Str.Lossy.{utf8_valid_len}

-- the longest beginning of whole characters within the room
abbrev pub whole_within : ℕ → List ℕ → List ℕ
whole_within room text = take (utf8_valid_len (take room text)) text
