-- What is said if arguments are no job.
use Rattle.std.specs.Prelude.{◌≡◌, ℕ, List, Option, string_bytes}
use Rattle.tds_packet.specs.declared.counted.Counted.{Counted}
use Rattle.tds_arguments.specs.declared.usage.Usage.{Usage}
use Rattle.tds_arguments.specs.declared.usage.Usage.TheVariants.{OutOfMemory, Help, Refused}
use Rattle.tds_replay.specs.declared.status.Status.{Status}
use Rattle.tds_replay.specs.declared.status.Status.TheVariants as status
use Rattle.tds_replay.specs.Lines.{memory_line}
use Rattle.tds_replay.specs.Saying.{SaysOrFails}

-- Help was written to the first writer, or another text to the notes, and this is how the command ends; the other writer is as it was.
abbrev pub SaysUsage : {W N : Type 0} → (W → Option (List ℕ)) → (N → Option (List ℕ)) → Usage → Counted W → Counted W → Counted N → Counted N → Status
    → Type 0
SaysUsage contents said OutOfMemory to to' notes notes' end = SaysOrFails said notes notes' memory_line × (to' ≡ to) × (end ≡ status.OutOfMemory)
SaysUsage contents said (Help text) to to' notes notes' end = SaysOrFails contents to to' (string_bytes text) × (notes' ≡ notes) × (end ≡ status.Done)
SaysUsage contents said (Refused text) to to' notes notes' end = SaysOrFails said notes notes' (string_bytes text) × (to' ≡ to)
    × (end ≡ status.Refused)
