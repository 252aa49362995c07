-- How the command ends.
use Rattle.std.specs.Prelude.{ℕ, Result, Ok, Err, ◌==◌, if◌then◌else◌}
use Rattle.tds_packet.specs.declared.fault.Fault.{Fault}
use Rattle.tds_packet.specs.declared.fault.Fault.TheVariants.{ReadFailed, WriteFailed}
use Rattle.tds_packet.specs.declared.answer.Recut.{Recut}
use Rattle.tds_packet.specs.declared.answer.RecutStop.{RecutStop}
use Rattle.tds_export.specs.declared.report.Report.{Report}
use Rattle.tds_export.specs.declared.report.Stopped.{Stopped}
use Rattle.tds_replay.specs.declared.status.Status.{Status}
use Rattle.tds_replay.specs.declared.status.Status.TheVariants.{Done, Refused, ServerError, BadInput, BadDevice, OutOfMemory}

-- the exit status
abbrev pub status_number : Status → ℕ
status_number Done = 0
status_number Refused = 2
status_number ServerError = 3
status_number BadInput = 4
status_number BadDevice = 5
status_number OutOfMemory = 6

-- how the command ends by this fault
abbrev pub status_of_fault : Fault → Status
status_of_fault ReadFailed = BadDevice
status_of_fault WriteFailed = BadDevice
status_of_fault fault = BadInput

-- how it ends by what an export returned
abbrev pub status_of : Result Report Stopped → Status
status_of (Ok report) = if report.errors == 0 then Done else ServerError
status_of (Err stopped) = status_of_fault stopped.fault

-- how it ends by what a recut returned
abbrev pub status_of_recut : Result Recut RecutStop → Status
status_of_recut (Ok done) = Done
status_of_recut (Err stop) = status_of_fault stop.stop.fault
