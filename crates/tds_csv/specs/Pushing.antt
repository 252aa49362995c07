-- What a joiner does with a piece and at the end. `old` and `new` are the bytes that it withholds, `before` and `after` the sink.
use Rattle.std.specs.Prelude.{◌≡◌, ◌≢◌, ℕ, ◌+◌, ◌*◌, ◌<◌, ◌≤◌, ◌%◌, Bool, true, false, List, [], ◌++◌, length, take, Option, MatchOption, Result, Ok, Err}
use Rattle.tds_csv.specs.declared.joiners.JoinFault.{JoinFault}
use Rattle.tds_csv.specs.declared.joiners.JoinFault.TheVariants.{Stopped, Odd, BadText}
use Rattle.tds_text.specs.Joining.{emit}
use Rattle.tds_csv.specs.declared.sink.Sink.{Sink}
use Rattle.tds_csv.specs.Sinks.{WritesPrefix, SinkView, IsOnSameSink, IsReady, IsWriting, Puts, held, stop_of}

-- A piece can be taken: what is withheld begins some data, and the sink takes text.
pub record CanTake {W : Type 0} (begins : List ℕ → Type 0) (kept : List ℕ) (sink : Sink W) : Type 0 where
  pub begun : begins kept
  pub writing : IsWriting sink

-- the piece is taken: its text is put as far as it is fixed, and the rest is withheld
pub record TakesPiece (begins : List ℕ → Type 0) (rest text : List ℕ → List ℕ) (old new : List ℕ) (before after : SinkView) (piece : List ℕ) : Type 0
  where
    pub begun : begins (old ++ piece)
    pub put : Puts before after (emit rest text (old ++ piece))
    pub withheld : new ≡ rest (old ++ piece)

-- the first k bytes of the piece are taken, and the next one is bad
pub record TakesUpTo (begins : List ℕ → Type 0) (rest text : List ℕ → List ℕ) (old new : List ℕ) (before after : SinkView) (piece : List ℕ) (k : ℕ) : Type
    0 where
  pub within : k < length piece
  pub good : TakesPiece begins rest text old new before after (take k piece)
  pub bad : ¬ (begins (old ++ take (k + 1) piece))

-- nothing was withheld; what the piece adds is at the front of a room, and its rest is withheld
pub record WritesAdded (begins : List ℕ → Type 0) (rest text : List ℕ → List ℕ) (old new piece to : List ℕ) (made : ℕ) : Type 0 where
  pub none : old ≡ []
  pub begun : begins (old ++ piece)
  pub short : made ≤ 3 * length piece
  pub written : take made to ≡ emit rest text (old ++ piece)
  pub withheld : new ≡ rest (old ++ piece)

-- What a piece adds was written to a room; or nothing was done, since bytes are withheld or the piece begins no data.
abbrev pub AddedWritten : (begins : List ℕ → Type 0) → (rest text : List ℕ → List ℕ) → (old new piece to : List ℕ) → Option ℕ → Type 0
AddedWritten begins rest text old new piece to result =
    MatchOption result ((new ≡ old) × (old ≡ [] → ¬ (begins piece))) (λ made. WritesAdded begins rest text old new piece to made)

-- the withheld bytes are whole, and their text is put
pub record Completes (fit : List ℕ → Type 0) (text : List ℕ → List ℕ) (old new : List ℕ) (before after : SinkView) : Type 0 where
  pub whole : fit old
  pub put : Puts before after (text old)
  pub withheld : new ≡ []

-- the withheld bytes aren't whole, and stay
pub record LeavesPart (fit : List ℕ → Type 0) (old new : List ℕ) (before after : SinkView) : Type 0 where
  pub part : ¬ (fit old)
  pub put : after ≡ before
  pub withheld : new ≡ old

-- the sink has stopped
abbrev pub is_stopped : {U : Type 0} → Result U JoinFault → Bool
is_stopped (Err (Stopped stop)) = true
is_stopped _ = false

-- what a push does, by its result; `failed` says that the sink had stopped before
abbrev pub Pushes : {U : Type 0} → (begins : List ℕ → Type 0) → (rest text : List ℕ → List ℕ) → (old new : List ℕ) → (before after : SinkView)
    → (failed : Bool) → (piece : List ℕ) → Result U JoinFault → Type 0
Pushes begins rest text old new before after failed piece (Ok _) = TakesPiece begins rest text old new before after piece
Pushes begins rest text old new before after failed piece (Err (Stopped stop)) = failed ≡ false
    → WritesPrefix before after (emit rest text (old ++ piece)) stop
Pushes begins rest text old new before after failed piece (Err Odd) = ⊥
Pushes begins rest text old new before after failed piece (Err (BadText k)) = TakesUpTo begins rest text old new before after piece k

-- what an end does, by its result; `unit` is the number of bytes of a unit
abbrev pub EndsBy : {U : Type 0} → (unit : ℕ) → (fit : List ℕ → Type 0) → (text : List ℕ → List ℕ) → (old new : List ℕ) → (before after : SinkView)
    → (failed : Bool) → Result U JoinFault → Type 0
EndsBy unit fit text old new before after failed (Ok _) = Completes fit text old new before after
EndsBy unit fit text old new before after failed (Err (Stopped stop)) = failed ≡ false → fit old × WritesPrefix before after (text old) stop
EndsBy unit fit text old new before after failed (Err Odd) = LeavesPart fit old new before after × (length old % unit ≢ 0)
EndsBy unit fit text old new before after failed (Err (BadText k)) = LeavesPart fit old new before after × (length old % unit ≡ 0) × (k ≡ 0)

-- A push, by its result. What is withheld then begins some data whatever the result is; after a failure of the sink it returns the same stop, and the
-- sink is as it was.
pub record PushesPiece {W U : Type 0} (contents : W → Option (List ℕ)) (begins : List ℕ → Type 0) (rest text : List ℕ
    → List ℕ) (old new : List ℕ) (before after : Sink W) (piece : List ℕ)
    (result : Result U JoinFault) : Type 0 where
  pub ready : IsReady after
  pub same : IsOnSameSink before after
  pub failed : after.failed ≡ is_stopped result
  pub gives : Pushes begins rest text old new (held contents before) (held contents after) before.failed piece result
  pub begun : begins new
  pub again : before.failed ≡ true → (result ≡ Err (Stopped (stop_of (held contents before)))) × (after ≡ before)

-- An end, by its result. What is withheld then begins some data if it did before; after a failure of the sink it returns the same stop, and the sink
-- is as it was.
pub record EndsPieces {W U : Type 0} (contents : W → Option (List ℕ)) (unit : ℕ) (fit begins : List ℕ → Type 0) (text : List ℕ
    → List ℕ) (old new : List ℕ) (before after : Sink W) (result : Result U JoinFault) : Type 0 where
  pub ready : IsReady after
  pub same : IsOnSameSink before after
  pub failed : after.failed ≡ is_stopped result
  pub gives : EndsBy unit fit text old new (held contents before) (held contents after) before.failed result
  pub begun : begins old → begins new
  pub again : before.failed ≡ true → (result ≡ Err (Stopped (stop_of (held contents before)))) × (after ≡ before)
