-- What performing a job does.
use Rattle.std.specs.Prelude.{◌≡◌, ◌≢◌, ◌⊎◌, ◌-◌, ⊤, ℕ, List, Option, None, Result}
use Rattle.std.specs.declared.io.Sink.{Sink}
use Rattle.tds_meter.specs.declared.areas.Areas.{Areas}
use Rattle.tds_meter.specs.declared.limits.Limits.{Limits}
use Rattle.tds_packet.specs.declared.answer.Recut.{Recut as Recutting}
use Rattle.tds_packet.specs.declared.answer.RecutStop.{RecutStop}
use Rattle.tds_packet.specs.declared.counted.Counted.{Counted}
use Rattle.tds_packet.specs.Recutting.{Recuts}
use Rattle.tds_values.specs.declared.charset.Charset.{Charset}
use Rattle.tds_export.specs.declared.report.Report.{Report}
use Rattle.tds_export.specs.declared.report.Stopped.{Stopped}
use Rattle.tds_arguments.specs.declared.job.Job.{Job}
use Rattle.tds_arguments.specs.declared.job.Work.{Work}
use Rattle.tds_arguments.specs.declared.job.Work.TheVariants.{Export, Check, ExportAll, CheckAll, Recut}
use Rattle.tds_arguments.specs.Jobs.{work_of}
use Rattle.tds_replay.specs.declared.status.Status.{Status}
use Rattle.tds_replay.specs.declared.status.Status.TheVariants.{OutOfMemory}
use Rattle.tds_replay.specs.Asking.{AreMade}
use Rattle.tds_replay.specs.Exporting.{Devices, Returns, Telling, devices, telling}
use Rattle.tds_replay.specs.Lines.{memory_line, recut_lines}
use Rattle.tds_replay.specs.Responses.{DeliversAccepted, ExportsAll}
use Rattle.tds_replay.specs.Saying.{SaysOrFails}
use Rattle.tds_replay.specs.Statuses.{status_number, status_of, status_of_recut}

-- An export over areas made for these limits returned, and the status is that of what it returned.
pub record Performs {R W N : Type 0} (tell : Telling R W N) (charset : Charset) (limits : Limits) (before after : Devices R W N)
    (status : Status) : Type 0 where
  pub areas : Areas
  pub left : Areas
  pub made : AreMade limits areas
  pub answer : Result Report Stopped
  pub returns : Returns tell charset (record { areas = areas; devices = before }) (record { areas = left; devices = after }) answer
  pub status_is : status ≡ status_of answer

-- There was no memory, and the line of that was written; reader and writer are as they were.
pub record LacksMemory {R W N : Type 0} (tell : Telling R W N) (before after : Devices R W N) (status : Status) : Type 0 where
  pub reader : after.from ≡ before.from
  pub writer : after.to ≡ before.to
  pub status_is : status ≡ OutOfMemory
  pub line : SaysOrFails tell.said before.notes after.notes memory_line

-- An export was performed within these limits, with this status.
abbrev pub PerformsExport : {R W N : Type 0} → Telling R W N → Charset → Limits → Devices R W N → Devices R W N → Status → Type 0
PerformsExport tell charset limits before after status = Performs tell charset limits before after status ⊎ LacksMemory tell before after status

-- what a device tells of which it isn't known what it gives or has
abbrev pub untold : {D : Type 0} → D → Option (List ℕ)
untold device = None

-- This was performed to a writer of its own, none of whose calls had failed.
pub record Checks {R N : Type 0} (Performed : Telling R Sink N → Charset → Limits → Devices R Sink N → Devices R Sink N → Status → Type 0)
    (remaining : R → Option (List ℕ)) (said : N → Option (List ℕ)) (charset : Charset) (limits : Limits) (from from' : Counted R)
    (notes notes' : Counted N) (status : Status) : Type 0 where
  pub own : Counted Sink
  pub own' : Counted Sink
  pub unfailed : own.failures ≡ 0
  pub performs : Performed (telling remaining untold said) charset limits (devices from own notes) (devices from' own' notes') status

-- An export was performed to a writer of its own, with this status, and the writer given is as it was.
abbrev pub PerformsCheck : {R W N : Type 0} → Telling R W N → Charset → Limits → Devices R W N → Devices R W N → Status → Type 0
PerformsCheck tell charset limits before after status =
    Checks PerformsExport tell.remaining tell.said charset limits before.from after.from before.notes after.notes status × (after.to ≡ before.to)

-- Exports of all responses were performed within these limits, with this status; or there was no memory.
abbrev pub PerformsAll : {R W N : Type 0} → Telling R W N → Charset → Limits → Devices R W N → Devices R W N → Status → Type 0
PerformsAll tell charset limits before after status = ExportsAll tell charset limits before after status ⊎ LacksMemory tell before after status

-- The same to a writer of its own, and the writer given is as it was.
abbrev pub ChecksAll : {R W N : Type 0} → Telling R W N → Charset → Limits → Devices R W N → Devices R W N → Status → Type 0
ChecksAll tell charset limits before after status =
    Checks PerformsAll tell.remaining tell.said charset limits before.from after.from before.notes after.notes status × (after.to ≡ before.to)

-- A recut returned, and the status and the line are those of what it returned.
pub record Rewrites {R W N : Type 0} (tell : Telling R W N) (packet_size max_wire : ℕ) (before after : Devices R W N) (status : Status) : Type 0 where
  pub answer : Result Recutting RecutStop
  pub recuts : Recuts tell.remaining tell.contents 32767 max_wire (packet_size - 8) before.from after.from before.to after.to answer
  pub status_is : status ≡ status_of_recut answer
  pub lines : SaysOrFails tell.said before.notes after.notes (recut_lines answer)

-- A recut to packets of this size was performed, with this status.
abbrev pub PerformsRecut : {R W N : Type 0} → Telling R W N → ℕ → ℕ → Devices R W N → Devices R W N → Status → Type 0
PerformsRecut tell packet_size max_wire before after status = Rewrites tell packet_size max_wire before after status
    ⊎ LacksMemory tell before after status

-- The work was performed, with this status.
abbrev pub PerformsAs : {R W N : Type 0} → Telling R W N → Work → Devices R W N → Devices R W N → Status → Type 0
PerformsAs tell (Export limits charset) before after status = PerformsExport tell charset limits before after status
PerformsAs tell (Check limits charset) before after status = PerformsCheck tell charset limits before after status
PerformsAs tell (ExportAll limits charset) before after status = PerformsAll tell charset limits before after status
PerformsAs tell (CheckAll limits charset) before after status = ChecksAll tell charset limits before after status
PerformsAs tell (Recut packet_size max_wire) before after status = PerformsRecut tell packet_size max_wire before after status

-- The work was performed, with this exit status.
abbrev pub PerformsWork : {R W N : Type 0} → Telling R W N → Work → Devices R W N → Devices R W N → ℕ → Type 0
PerformsWork tell work before after number = (status : Status) × (number ≡ status_number status) × PerformsAs tell work before after status

-- A job was performed, with this exit status.
abbrev pub PerformsJob : {R W N : Type 0} → Telling R W N → Job → Devices R W N → Devices R W N → ℕ → Type 0
PerformsJob tell job before after number = PerformsWork tell (work_of job) before after number

-- If all responses are exported and there was memory, accepted ones are delivered.
abbrev pub DeliversAs : {R W N : Type 0} → Telling R W N → Work → Devices R W N → Devices R W N → Status → Type 0
DeliversAs tell (ExportAll limits charset) before after status = (status ≢ OutOfMemory) → DeliversAccepted tell charset limits before after status
DeliversAs tell work before after status = ⊤

-- The same, with this exit status.
abbrev pub DeliversWork : {R W N : Type 0} → Telling R W N → Work → Devices R W N → Devices R W N → ℕ → Type 0
DeliversWork tell work before after number = (status : Status) × (number ≡ status_number status) × DeliversAs tell work before after status
