-- What is written to the notes.
use Rattle.std.specs.Prelude.{◌≡◌, ◌<◌, ◌⊎◌, ◌++◌, List, length, take, ℕ, Option, Result, Ok, Err}
use Rattle.std.specs.Io.KnownBytes.{Appends}
use Rattle.tds_packet.specs.declared.counted.Counted.{Counted}
use Rattle.tds_packet.specs.Filling.{Rises, Stays}
use Rattle.tds_replay.specs.declared.pieces.NoteFailed.{NoteFailed}

-- The text was written, and no write failed.
abbrev pub WritesText : {N : Type 0} → (N → Option (List ℕ)) → Counted N → Counted N → List ℕ → Type 0
WritesText contents old new text = Appends (contents old.device) (contents new.device) text × Stays old.failures new.failures text

-- A write failed, which was counted. A part of the text was written, and nothing else.
pub record FailsToSay {N : Type 0} (contents : N → Option (List ℕ)) (old new : Counted N) (text : List ℕ) : Type 0 where
  pub taken : ℕ
  pub part : taken < length text
  pub writes : Appends (contents old.device) (contents new.device) (take taken text)
  pub counted : Rises old.failures new.failures (take taken text)

-- The text was written; or a write of it failed.
abbrev pub Says : {N U : Type 0} → (N → Option (List ℕ)) → Counted N → Counted N → List ℕ → Result U NoteFailed → Type 0
Says contents old new text (Ok _) = WritesText contents old new text
Says contents old new text (Err _) = FailsToSay contents old new text

-- The text was written, or a write of it failed; the result isn't passed on.
abbrev pub SaysOrFails : {N : Type 0} → (N → Option (List ℕ)) → Counted N → Counted N → List ℕ → Type 0
SaysOrFails contents old new text = WritesText contents old new text ⊎ FailsToSay contents old new text

-- The text was added to what is gathered, a front of which was written.
pub record AddsText {N : Type 0} (contents : N → Option (List ℕ)) (old new : Counted N) (had has text : List ℕ) : Type 0 where
  pub sent : List ℕ
  pub writes : WritesText contents old new sent
  pub rest : had ++ text ≡ sent ++ has

-- The same; or a write of what was gathered and the text failed.
abbrev pub Gathers : {N U : Type 0} → (N → Option (List ℕ)) → Counted N → Counted N → List ℕ → List ℕ → List ℕ → Result U NoteFailed → Type 0
Gathers contents old new had has text (Ok _) = AddsText contents old new had has text
Gathers contents old new had has text (Err _) = FailsToSay contents old new (had ++ text)
