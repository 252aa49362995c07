-- Which failures of its devices a call counts, and which it names.
use Rattle.std.specs.Prelude.{◌≡◌, ℕ, Result, MatchResult}
use Rattle.tds_meter.specs.Counts.{one_more}
use Rattle.tds_packet.specs.declared.fault.Fault.TheVariants.{ReadFailed, WriteFailed}
use Rattle.tds_packet.specs.declared.fault.Stop.{Stop}
use Rattle.tds_packet.specs.declared.payload.Payload.{Payload}
use Rattle.tds_csv.specs.declared.sink.Sink.{Sink}

-- the counts of failures of a reader and a writer
pub record Failures : Type 0 where
  pub reads : ℕ
  pub writes : ℕ

-- those of a payload's reader and a sink's writer
abbrev pub failures_of : {R W : Type 0} → Payload R → Sink W → Failures
failures_of payload sink = record { reads = payload.from.now.failures; writes = sink.to.now.failures }

-- A success has no failure; a stop that names a device's fault comes after one more failure of that device.
abbrev pub Blames : {U : Type 0} → Failures → Failures → Result U Stop → Type 0
Blames old new result = MatchResult result (λ _. new ≡ old)
    (λ stop. (stop.fault ≡ ReadFailed → new.reads ≡ one_more old.reads) × (stop.fault ≡ WriteFailed → new.writes ≡ one_more old.writes))
