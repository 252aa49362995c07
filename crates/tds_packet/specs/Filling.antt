-- What a read that is to fill a slice does.
use Rattle.std.specs.Prelude.{◌≡◌, ℕ, ◌-◌, ◌^◌, ◌<◌, ◌↔◌, ⊤, Bool, IsTrue, List, [], length, Option, None, Some, Result, Ok, Err}
use Rattle.std.specs.Io.KnownBytes.{Consumes, IsAtEnd}
use Rattle.tds_meter.specs.Counts.{one_more}
use Rattle.tds_packet.specs.declared.counted.Short.{Short}
use Rattle.tds_packet.specs.declared.counted.Short.TheVariants.{Ended, Failed}
use Rattle.tds_packet.specs.Devices.{Device}

-- The count of failures stayed, and if bytes were moved it was not the greatest, at which each call counts as failed.
abbrev pub Stays : ℕ → ℕ → List ℕ → Type 0
Stays before after moved = (after ≡ before) × (0 < length moved → before < 2 ^ 64 - 1)

-- The count of failures rose, and if bytes were moved before, it was not the greatest.
abbrev pub Rises : ℕ → ℕ → List ℕ → Type 0
Rises before after moved = (after ≡ one_more before) × (0 < length moved → before < 2 ^ 64 - 1)

-- A device returned without failing: the count stayed, and was not the greatest.
abbrev pub IsAnswered : ℕ → ℕ → Type 0
IsAnswered before after = (after ≡ before) × (before < 2 ^ 64 - 1)

-- One call of a device succeeded, or it failed, and was counted.
abbrev pub CountsCall : {U E : Type 0} → ℕ → ℕ → Result U E → Type 0
CountsCall before after (Ok _) = IsAnswered before after
CountsCall before after (Err _) = after ≡ one_more before

-- It is told whether a reader has no byte left, if that is known.
abbrev pub TellsInputEnd : Option (List ℕ) → Bool → Type 0
TellsInputEnd None over = ⊤
TellsInputEnd (Some bytes) over = IsTrue over ↔ (bytes ≡ [])

-- Fewer than n bytes were read, and none is left.
abbrev pub RunsOut : Option (List ℕ) → Option (List ℕ) → ℕ → Type 0
RunsOut old new n = ((bytes : List ℕ) × (length bytes < n) × Consumes old new bytes) × IsAtEnd new

-- The input ended before n bytes were read; or a read failed, which was counted, after fewer than n bytes.
abbrev pub FallsShort : (old new : Device) → ℕ → Short → Type 0
FallsShort old new n Ended = RunsOut old.bytes new.bytes n × IsAnswered old.failures new.failures
FallsShort old new n Failed = (bytes : List ℕ) × (length bytes < n) × Consumes old.bytes new.bytes bytes × Rises old.failures new.failures bytes

-- All was read, or the call fell short.
abbrev pub FillsSlice : {U : Type 0} → (old new : Device) → List ℕ → Result U Short → Type 0
FillsSlice old new bytes (Ok _) = Consumes old.bytes new.bytes bytes × Stays old.failures new.failures bytes
FillsSlice old new bytes (Err short) = FallsShort old new (length bytes) short
