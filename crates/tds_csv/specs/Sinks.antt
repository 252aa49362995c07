-- A sink as contracts see it, and what calls do to it.
use Rattle.std.specs.Prelude.{◌≡◌, ℕ, ◌+◌, ◌-◌, ◌*◌, ◌^◌, ◌<◌, ◌≤◌, true, false, not, List, [], ◌++◌, length, take, Option, Result, Err}
use Rattle.std.specs.Prelude.{is_ok, MatchResult, OnOk, OnErr}
use Rattle.std.specs.Io.KnownBytes.{Appends}
use Rattle.tds_meter.specs.Counts.{counted}
use Rattle.tds_packet.specs.declared.fault.Fault.TheVariants.{WriteFailed}
use Rattle.tds_packet.specs.declared.fault.Place.TheVariants.{Text}
use Rattle.tds_packet.specs.declared.fault.Stop.{Stop}
use Rattle.tds_packet.specs.Filling.{Rises, Stays}
use Rattle.tds_csv.specs.declared.sink.Sink.{Sink}

-- what the writer has, if that is known; what waits; how many bytes were delivered; and the writer's count of failures
pub record SinkView : Type 0 where
  pub had : Option (List ℕ)
  pub waiting : List ℕ
  pub delivered : ℕ
  pub failures : ℕ

-- the sink as contracts see it, if this tells the bytes that its writer has
abbrev pub held : {W : Type 0} → (W → Option (List ℕ)) → Sink W → SinkView
held contents s = record { had = contents s.to.now.device; waiting = s.output.now.bytes; delivered = s.delivered; failures = s.to.now.failures }

-- a sink on a writer, to which nothing was put
abbrev pub fresh : Option (List ℕ) → ℕ → SinkView
fresh had failures = record { had = had; waiting = []; delivered = 0; failures = failures }

-- A piece was added, and these bytes delivered: what is delivered and what waits grew by the piece.
abbrev pub Adds : SinkView → SinkView → List ℕ → List ℕ → Type 0
Adds old new sent piece = Appends old.had new.had sent × (old.waiting ++ piece ≡ sent ++ new.waiting)
    × (new.delivered ≡ counted old.delivered (length sent))

-- the stop of a sink
abbrev pub stop_of : SinkView → Stop
stop_of h = record { fault = WriteFailed; place = Text h.delivered }

-- The piece was added, and blocks of 4,096 bytes delivered.
abbrev pub Puts : SinkView → SinkView → List ℕ → Type 0
Puts old new piece = (sent : List ℕ) × (blocks : ℕ) × Adds old new sent piece × (length sent ≡ 4096 * blocks) × Stays old.failures new.failures sent

-- A write failed in the block after this number of them, and what the writer didn't take of it waits: a beginning of the piece was added.
abbrev pub WritesPrefix : SinkView → SinkView → List ℕ → Stop → Type 0
WritesPrefix old new piece stop = (sent : List ℕ) × (blocks : ℕ) × (n : ℕ) × Adds old new sent (take n piece) × (n ≤ length piece)
    × (4096 * blocks ≤ length sent) × (length sent < 4096 * (blocks + 1))
    × (length sent + length new.waiting ≡ 4096 * (blocks + 1)) × (stop ≡ stop_of new) × Rises old.failures new.failures sent

-- All was delivered.
abbrev pub Sends : SinkView → SinkView → Type 0
Sends old new = (sent : List ℕ) × Adds old new sent [] × (new.waiting ≡ []) × Stays old.failures new.failures sent

-- All was delivered, and the writer was flushed.
abbrev pub Finishes : SinkView → SinkView → Type 0
Finishes old new = (sent : List ℕ) × Adds old new sent [] × (new.waiting ≡ []) × (new.failures ≡ old.failures) × (old.failures < 2 ^ 64 - 1)

-- A write or the flush failed.
abbrev pub FinishFails : SinkView → SinkView → Stop → Type 0
FinishFails old new stop = (sent : List ℕ) × Adds old new sent [] × (stop ≡ stop_of new) × Rises old.failures new.failures sent

-- It has room for a block, and less than one waits unless it has stopped.
abbrev pub IsReady : {W : Type 0} → Sink W → Type 0
IsReady s = (4096 ≤ s.output.now.room) × (s.failed ≡ false → length s.output.now.bytes < 4096) × (s.delivered ≤ 2 ^ 64 - 1)
    × (s.output.now.peak ≤ s.output.now.room)

-- It is on the same writer and area.
abbrev pub IsOnSameSink : {W : Type 0} → Sink W → Sink W → Type 0
IsOnSameSink old new = (new.to.ghost_name ≡ old.to.ghost_name) × (new.output.ghost_name ≡ old.output.ghost_name)
    × (new.output.now.room ≡ old.output.now.room)

-- It takes text: it is ready, and no write has failed.
pub record IsWriting {W : Type 0} (s : Sink W) : Type 0 where
  pub ready : IsReady s
  pub writing : s.failed ≡ false

-- It takes text, and has room for that of a part of a piece.
pub record AwaitsPart {W : Type 0} (s : Sink W) : Type 0 where
  pub writing : IsWriting s
  pub room : 64 ≤ 4096 - length s.output.now.bytes

-- A call that puts a text: on an error a beginning of it was put. After a failure it returns the same stop and does nothing.
pub record PutsPiece {W U : Type 0} (contents : W → Option (List ℕ)) (old new : Sink W) (text : List ℕ) (result : Result U Stop) : Type 0 where
  pub ready : IsReady new
  pub same : IsOnSameSink old new
  pub failed : new.failed ≡ not (is_ok result)
  pub gives : MatchResult result (λ _. Puts (held contents old) (held contents new) text) (λ stop. old.failed ≡ false
      → WritesPrefix (held contents old) (held contents new) text stop)
  pub again : old.failed ≡ true → (result ≡ Err (stop_of (held contents old))) × (new ≡ old)

-- A delivery of all that waits, which leaves some of it if a write fails.
pub record Delivers {W U : Type 0} (contents : W → Option (List ℕ)) (old new : Sink W) (result : Result U Stop) : Type 0 where
  pub ready : IsReady new
  pub same : IsOnSameSink old new
  pub failed : new.failed ≡ not (is_ok result)
  pub gives : MatchResult result (λ _. Sends (held contents old) (held contents new))
      (λ stop. FinishFails (held contents old) (held contents new) stop)
  pub rest : OnErr result (0 < length new.output.now.bytes)

-- The end of a text: all that waits is delivered, and the writer flushed. After a failure it returns the same stop and does nothing.
pub record FinishesSink {W U : Type 0} (contents : W → Option (List ℕ)) (old new : Sink W) (result : Result U Stop) : Type 0 where
  pub ready : IsReady new
  pub same : IsOnSameSink old new
  pub failed : new.failed ≡ not (is_ok result)
  pub gives : MatchResult result (λ _. Finishes (held contents old) (held contents new))
      (λ stop. old.failed ≡ false → FinishFails (held contents old) (held contents new) stop)
  pub again : old.failed ≡ true → (result ≡ Err (stop_of (held contents old))) × (new ≡ old)

-- A call left it ready, on the same writer and area, and writing if it returned no error.
pub record LeavesSink {W U : Type 0} (old new : Sink W) (result : Result U Stop) : Type 0 where
  pub ready : IsReady new
  pub same : IsOnSameSink old new
  pub writing : OnOk result (new.failed ≡ false)
