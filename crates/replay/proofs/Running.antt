-- A job performed over what was opened for it, from what each step says.
use Rattle.std.specs.Prelude.{◌≡◌, ℕ, List, [], Option}
use Rattle.std.proofs.Common.{◌∙◌, ap, subst}
use Rattle.std.specs.Io.Buffered.{reader_buffer, reader_capacity, reader_inner, reader_remaining}
use Rattle.std.specs.declared.io.buffered.BufReader.{BufReader}
use Rattle.std.specs.declared.alloc.Global.{Global}
use Rattle.std.specs.declared.io.Stdout.{Stdout}
use Rattle.tds_packet.specs.declared.counted.Counted.{Counted}
use Rattle.tds_arguments.specs.declared.job.Job.{Job}
use Rattle.tds_arguments.specs.declared.job.Work.{Work}
use Rattle.tds_arguments.specs.Jobs.{work_of}
use Rattle.tds_replay.specs.Exporting.{devices, telling}
use Rattle.tds_replay.specs.Performing.{PerformsWork, untold}
use Rattle.replay.specs.Runs.{PerformsOver}

-- an empty buffer over the reader and a writer, neither counted before, make a run over that reader
pub performs_over : {R N : Type 0} {remaining : R → Option (List ℕ)} {said : N → Option (List ℕ)} {job : Job} {reader : R} {notes notes' : Counted N}
    {number ahead : ℕ} {buffer : BufReader R Global} {output : Stdout} {work : Work} (from from' : Counted (BufReader R Global)) (to to' : Counted Stdout)
    → reader_inner buffer ≡ reader → reader_buffer buffer ≡ [] → reader_capacity buffer ≡ ahead → from ≡ record { device = buffer; failures = 0 }
    → to ≡ record { device = output; failures = 0 } → work ≡ work_of job
    → PerformsWork (telling (reader_remaining remaining) untold said) work (devices from to notes) (devices from' to' notes') number
    → PerformsOver remaining said job reader ahead notes notes' number
performs_over {R} {N} {remaining} {said} {notes = notes} {notes' = notes'} {number = number} from from' to to' inner empty ahead_is begun written is
    performed = record {
      from = from;
      from' = from';
      to = to;
      to' = to';
      reads = ap (λ (counted : Counted (BufReader R Global)). reader_inner counted.device) begun ∙ inner;
      empty = ap (λ (counted : Counted (BufReader R Global)). reader_buffer counted.device) begun ∙ empty;
      ahead_is = ap (λ (counted : Counted (BufReader R Global)). reader_capacity counted.device) begun ∙ ahead_is;
      unread = ap (λ (counted : Counted (BufReader R Global)). counted.failures) begun;
      unwritten = ap (λ (counted : Counted Stdout). counted.failures) written;
      performs = subst (λ (work : Work).
          PerformsWork (telling (reader_remaining remaining) untold said) work (devices from to notes) (devices from' to' notes') number) is performed;
    }
