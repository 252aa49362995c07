-- What a call that reads by a grammar and puts the text of what it reads does, on success and on each stop.
use Rattle.std.specs.Prelude.{◌≡◌, ◌⊎◌, ◌<◌, ℕ, Bool, true, false, List, ◌++◌, length}
use Rattle.tds_packet.specs.declared.fault.Fault.{Fault}
use Rattle.tds_packet.specs.declared.fault.Stop.{Stop}
use Rattle.tds_packet.specs.Elements.{Grammar, Spelt, IsNext}
use Rattle.tds_packet.specs.Reading.{StopsReading}
use Rattle.tds_packet.specs.PayloadView.{PayloadView, Takes, IsBetween}
use Rattle.tds_csv.specs.Sinks.{SinkView, Puts, WritesPrefix}

-- What the text of one state has more than that of another was put.
abbrev pub PutsText : {S : Type 0} → (S → List ℕ) → S → S → SinkView → SinkView → Type 0
PutsText text from to before after = (added : List ℕ) × (text from ++ added ≡ text to) × Puts before after added

-- Whole elements were read, which lead from one state to another, and the text between them was put.
pub record Streams {S : Type 0} (g : Grammar S Fault) (text : S → List ℕ) (from : S) (old new : PayloadView) (before after : SinkView) (to : S) : Type 0 where
  pub bytes : List ℕ
  pub spelt : Spelt g from bytes to
  pub takes : Takes old new bytes (length bytes)
  pub puts : PutsText text from to before after

-- Whole elements were read, and the text put; then the next element was read, and a write of its text failed. What comes after it in the packets read
-- may have been handed out too; no packet was read for that.
pub record WritesPrefixStreaming {S : Type 0} (g : Grammar S Fault) (text : S → List ℕ) (from : S) (old new : PayloadView) (before after : SinkView) (at : S)
    (stop : Stop) : Type 0 where
  pub bytes : List ℕ
  pub element : List ℕ
  pub ahead : List ℕ
  pub spelt : Spelt g from bytes at
  pub next : IsNext g at element
  pub takes : Takes old new ((bytes ++ element) ++ ahead) (length (bytes ++ element))
  pub between : IsBetween new
  pub middle : SinkView
  pub few : length middle.waiting < 4096
  pub puts : PutsText text from at before middle
  pub more : List ℕ
  pub text_is : text at ++ more ≡ text (g.add at element)
  pub breaks : WritesPrefix middle after more stop

-- A call that reads by a grammar and puts the text of what it reads stopped: in reading, with the text of the state that it reached; or in writing.
-- It began after this number of bytes of the payload.
pub record StopsStreaming {S : Type 0} (g : Grammar S Fault) (text : S → List ℕ) (from : S) (old new : PayloadView) (place : ℕ) (before after : SinkView)
    (failed : Bool) (stop : Stop) : Type 0 where
  pub at : S
  pub cause :
      (StopsReading g from old new place at stop × PutsText text from at before after × (failed ≡ false))
      ⊎ (WritesPrefixStreaming g text from old new before after at stop × (failed ≡ true))
