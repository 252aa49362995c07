-- What a run of the program does. There are no words for what a file and the standard streams give and have, nor for which file was opened.
use Rattle.std.specs.Prelude.{◌≡◌, ◌⊎◌, ℕ, List, [], Option, None, Some, Result, Ok, Err, String, map, string_bytes}
use Rattle.std.specs.Io.Buffered.{reader_buffer, reader_capacity, reader_inner, reader_remaining}
use Rattle.std.specs.Process.{exit_status}
use Rattle.std.specs.declared.io.buffered.BufReader.{BufReader}
use Rattle.std.specs.declared.alloc.Global.{Global}
use Rattle.std.specs.declared.fs.File.{File}
use Rattle.std.specs.declared.process.ExitCode.{ExitCode}
use Rattle.std.specs.declared.io.Stdin.{Stdin}
use Rattle.std.specs.declared.io.Stdout.{Stdout}
use Rattle.tds_packet.specs.declared.counted.Counted.{Counted}
use Rattle.tds_arguments.specs.declared.job.Job.{Job}
use Rattle.tds_arguments.specs.declared.job.Work.{Work}
use Rattle.tds_arguments.specs.declared.job.Work.TheVariants.{ExportAll, CheckAll}
use Rattle.tds_arguments.specs.declared.usage.Usage.{Usage}
use Rattle.tds_arguments.specs.declared.usage.Usage.TheVariants.{OutOfMemory}
use Rattle.tds_arguments.specs.CommandLine.{Answers}
use Rattle.tds_arguments.specs.Jobs.{path_of, work_of}
use Rattle.tds_replay.specs.declared.status.Status.{Status}
use Rattle.tds_replay.specs.Exporting.{devices, telling}
use Rattle.tds_replay.specs.Lines.{memory_line, unreadable_line}
use Rattle.tds_replay.specs.Performing.{PerformsJob, untold}
use Rattle.tds_replay.specs.Saying.{SaysOrFails}
use Rattle.tds_replay.specs.Statuses.{status_number}
use Rattle.tds_replay.specs.Usages.{SaysUsage}

-- how many bytes of standard input are read ahead at most: none if one response is read, since another program may read on from it
abbrev pub ahead_of : Work → ℕ
ahead_of (ExportAll limits charset) = 65536
ahead_of (CheckAll limits charset) = 65536
ahead_of work = 0

-- The job was performed over this reader, behind an empty buffer of this size, to standard output, with this exit status. No call of either had failed.
pub record PerformsOver {R N : Type 0} (remaining : R → Option (List ℕ)) (said : N → Option (List ℕ)) (job : Job) (reader : R) (ahead : ℕ)
    (notes notes' : Counted N) (number : ℕ) : Type 0 where
  pub from : Counted (BufReader R Global)
  pub from' : Counted (BufReader R Global)
  pub to : Counted Stdout
  pub to' : Counted Stdout
  pub reads : reader_inner from.device ≡ reader
  pub empty : reader_buffer from.device ≡ []
  pub ahead_is : reader_capacity from.device ≡ ahead
  pub unread : from.failures ≡ 0
  pub unwritten : to.failures ≡ 0
  pub performs : PerformsJob (telling (reader_remaining remaining) untold said) job (devices from to notes) (devices from' to' notes') number

-- The line was written, and this is the exit status.
abbrev pub EndsWith : {N : Type 0} → (N → Option (List ℕ)) → Counted N → Counted N → List ℕ → ℕ → ℕ → Type 0
EndsWith said notes notes' line status number = SaysOrFails said notes notes' line × (number ≡ status)

-- The job was performed over this reader, or there was no memory for a buffer.
abbrev pub RunsFrom : {R N : Type 0} → (R → Option (List ℕ)) → (N → Option (List ℕ)) → Job → R → ℕ → Counted N → Counted N → ℕ → Type 0
RunsFrom remaining said job reader ahead notes notes' number =
    PerformsOver remaining said job reader ahead notes notes' number ⊎ EndsWith said notes notes' memory_line 6 number

-- The job was performed over standard input; or over a file, if it has a path, or the file couldn't be opened.
abbrev pub RunsAt : {N : Type 0} → (N → Option (List ℕ)) → Job → Option (List ℕ) → Counted N → Counted N → ℕ → Type 0
RunsAt said job None notes notes' number = (reader : Stdin) × RunsFrom untold said job reader (ahead_of (work_of job)) notes notes' number
RunsAt said job (Some path) notes notes' number =
    ((reader : File) × RunsFrom untold said job reader 65536 notes notes' number) ⊎ EndsWith said notes notes' (unreadable_line path) 5 number

-- The job was performed over what it names.
abbrev pub RunsJob : {N : Type 0} → (N → Option (List ℕ)) → Job → Counted N → Counted N → ℕ → Type 0
RunsJob said job notes notes' number = RunsAt said job (path_of job) notes notes' number

-- What the arguments ask for was said, with this exit status.
abbrev pub Says : {N : Type 0} → (N → Option (List ℕ)) → Usage → Counted N → Counted N → ℕ → Type 0
Says said usage notes notes' number = (to to' : Counted Stdout) × (status : Status) × SaysUsage untold said usage to to' notes notes' status
    × (number ≡ status_number status)

-- The job that was read was performed, or it was said why there is none, and that is the exit status.
abbrev pub Ends : {N : Type 0} → (N → Option (List ℕ)) → Result Job Usage → Counted N → Counted N → ExitCode → Type 0
Ends said (Ok job) notes notes' code = RunsJob said job notes notes' (exit_status code)
Ends said (Err usage) notes notes' code = Says said usage notes notes' (exit_status code)

-- The arguments were parsed, or there was no memory for a list of them.
abbrev pub Reads : List (String Global) → Result Job Usage → Type 0
Reads arguments answer = Answers (map string_bytes arguments) answer ⊎ (answer ≡ Err OutOfMemory)
