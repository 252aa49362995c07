-- What an export has to do with in a run of the command, and what it leaves.
use Rattle.std.specs.Prelude.{ℕ, List, Option, Result}
use Rattle.tds_meter.specs.declared.areas.Areas.{Areas}
use Rattle.tds_packet.specs.declared.counted.Counted.{Counted}
use Rattle.tds_values.specs.declared.charset.Charset.{Charset}
use Rattle.tds_export.specs.declared.report.Report.{Report}
use Rattle.tds_export.specs.declared.report.Stopped.{Stopped}
use Rattle.tds_export.specs.Exports.{Exports}
use Rattle.tds_export.specs.Moments.{Moment, moment}
use Rattle.tds_replay.specs.Asking.{KeepsInAreas}
use Rattle.tds_replay.specs.Lines.{answer_lines}
use Rattle.tds_replay.specs.Saying.{SaysOrFails}

-- the devices of a job at a moment
pub record Devices (R W N : Type 0) : Type 0 where
  pub from : Counted R
  pub to : Counted W
  pub notes : Counted N

-- a reader, a writer and the writer of the notes, at a moment
abbrev pub devices : {R W N : Type 0} → Counted R → Counted W → Counted N → Devices R W N
devices from to notes = record { from = from; to = to; notes = notes }

-- what devices tell: the bytes that the reader still gives, and those that the writer and the notes have, if that is known
pub record Telling (R W N : Type 0) : Type 0 where
  pub remaining : R → Option (List ℕ)
  pub contents : W → Option (List ℕ)
  pub said : N → Option (List ℕ)

-- what these devices tell
abbrev pub telling : {R W N : Type 0} → (R → Option (List ℕ)) → (W → Option (List ℕ)) → (N → Option (List ℕ)) → Telling R W N
telling remaining contents said = record { remaining = remaining; contents = contents; said = said }

-- the areas and the devices at a moment
pub record Standing (R W N : Type 0) : Type 0 where
  pub areas : Areas
  pub devices : Devices R W N

-- areas, a reader, a writer and the writer of the notes, at a moment
abbrev pub standing : {R W N : Type 0} → Areas → Counted R → Counted W → Counted N → Standing R W N
standing areas from to notes = record { areas = areas; devices = devices from to notes }

-- what an export has to do with of this
abbrev pub moment_of : {R W N : Type 0} → Telling R W N → Standing R W N → Moment
moment_of tell s = moment tell.remaining tell.contents s.areas s.devices.from s.devices.to

-- An export returned this, with nothing kept beside the areas, and then its lines were written.
pub record Returns {R W N : Type 0} (tell : Telling R W N) (charset : Charset) (old new : Standing R W N) (answer : Result Report Stopped)
    : Type 0 where
  pub kept : KeepsInAreas old.areas new.areas
  pub exports : Exports charset (moment_of tell old) (moment_of tell new) answer
  pub lines : SaysOrFails tell.said old.devices.notes new.devices.notes (answer_lines answer new.areas.notice.bytes)
