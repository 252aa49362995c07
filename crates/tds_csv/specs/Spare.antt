-- A sink whose room is lent for writing.
use Rattle.std.specs.Prelude.{◌≡◌, ◌^◌, ◌-◌, ◌≤◌, ℕ, false, not, List, [], Option, Result, Ok, MatchResult, is_ok, length, drop, take}
use Rattle.std.specs.Borrow.{Lends, Fml, RattleType, MutBor, Array, u8}
use mir.Syntax.{named}
use Rattle.tds_meter.specs.Lent.{with_tail}
use Rattle.tds_meter.specs.Space.{appended}
use Rattle.tds_csv.specs.declared.sink.Sink.{Sink}
use Rattle.tds_csv.specs.contracts.sink.Sink.{the_row}
use Rattle.tds_packet.specs.declared.fault.Stop.{Stop}
use Rattle.tds_csv.specs.Sinks.{WritesPrefix, SinkView, IsOnSameSink, IsReady, Puts, held}

-- the bytes that are lent come after those that wait, and these are written over them
abbrev pub with_spare : {W : Type 0} → Sink W → List ℕ → List ℕ → Sink W
with_spare s lent written = record s { output = record s.output { now = with_tail (appended s.output.now lent) (length s.output.now.bytes) written } }

-- The sink ends with the lent bytes after those that wait, as what they end as.
abbrev pub LendsSpare : (W : RattleType) → MutBor (Sink W.Denot) → MutBor (List ℕ) → Fml
LendsSpare W s r = Lends (the_row (record { mir = named 0; lft = [] }) W) (Array u8 0) s r (with_spare s.now r.now)

-- It has room for a block, and no write has failed.
abbrev pub IsLent : {W : Type 0} → Sink W → Type 0
IsLent s = (4096 ≤ s.output.now.room) × (s.delivered ≤ 2 ^ 64 - 1) × (s.output.now.peak ≤ s.output.now.room) × (s.failed ≡ false)

-- the sink without the bytes after the first `waiting` ones that wait
abbrev pub held_before : {W : Type 0} → (W → Option (List ℕ)) → Sink W → ℕ → SinkView
held_before contents s waiting = record (held contents s) { waiting = take waiting s.output.now.bytes }

-- After the first `waiting` bytes that wait, `made` of the others were put, and the rest was taken away.
pub record KeepsPiece {W U : Type 0} (contents : W → Option (List ℕ)) (old new : Sink W) (waiting made : ℕ) (result : Result U Stop) : Type 0 where
  pub ready : IsReady new
  pub same : IsOnSameSink old new
  pub failed : new.failed ≡ not (is_ok result)
  pub gives : let piece = take made (drop waiting old.output.now.bytes) in MatchResult result
      (λ _. Puts (held_before contents old waiting) (held contents new) piece)
      (λ stop. WritesPrefix (held_before contents old waiting) (held contents new) piece stop)

-- So it was, and nothing was delivered that could fail.
abbrev pub CommitsPiece : {W : Type 0} → (W → Option (List ℕ)) → Sink W → Sink W → ℕ → ℕ → Type 0
CommitsPiece contents old new waiting made = KeepsPiece {U = Unit {0}} contents old new waiting made (Ok tt)
