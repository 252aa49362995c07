-- What reading a RETURNVALUE does.
use Rattle.std.specs.Prelude.{◌≡◌, ◌+◌, ℕ, List, length, Option, Result, MatchResult}
use Rattle.tds_values.specs.declared.kind.Kind.{Kind}
use Rattle.tds_packet.specs.declared.fault.Stop.{Stop}
use Rattle.tds_packet.specs.declared.payload.Payload.{Payload}
use Rattle.tds_packet.specs.Payloads.{seen}
use Rattle.tds_packet.specs.Reading.{Reads, StopsReading}
use Rattle.tds_packet.specs.PayloadView.{PayloadView}
use Rattle.tds_cells.specs.Cells.{cell_start, return_charset, shape}
use Rattle.tds_export.specs.ReturnValue.{ReturnHead, ReturnOrdinal, ReturnPart, ReturnValue, WholeReturn, return_value, with_value}

-- Whole elements of a return value were read, which lead from one part of it to another.
pub record ReadsReturn (from to : ReturnPart) (old new : PayloadView) (place place' : ℕ) : Type 0 where
  pub reads : Reads return_value from old new to
  pub place_is : place' ≡ place + length reads.bytes

-- Reading a return value stopped: at the first fault of an element, or as the payload does.
pub record StopsReturn (from : ReturnPart) (old new : PayloadView) (place : ℕ) (stop : Stop) : Type 0 where
  pub at : ReturnPart
  pub stops : StopsReading return_value from old new place at stop

-- before the value of this kind
abbrev pub before_value : List ℕ → Kind → ReturnPart
before_value name kind = with_value name kind (cell_start kind (shape return_charset kind))

-- An ordinal and a name were read.
pub record ReadsName (old new : PayloadView) (place place' : ℕ) : Type 0 where
  pub name : List ℕ
  pub steps : ReadsReturn ReturnOrdinal (ReturnHead name) old new place place'

-- A whole return value was read.
pub record ReadsValue (old new : PayloadView) (place place' : ℕ) : Type 0 where
  pub value : ReturnValue
  pub steps : ReadsReturn ReturnOrdinal (WholeReturn value) old new place place'

-- An ordinal and a name were read, or that stopped.
abbrev pub NamePassed : {R U : Type 0} → (R → Option (List ℕ)) → (old new : Payload R) → Result U Stop → Type 0
NamePassed remaining old new result = MatchResult result
    (λ _. ReadsName (seen remaining old) (seen remaining new) old.place new.place)
    (λ stop. StopsReturn ReturnOrdinal (seen remaining old) (seen remaining new) old.place stop)

-- After a name all up to the value was read, whose kind is returned; or that stopped: whatever the name is.
abbrev pub TypeTaken : {R : Type 0} → (R → Option (List ℕ)) → (old new : Payload R) → Result Kind Stop → Type 0
TypeTaken remaining old new result = (name : List ℕ) →
    MatchResult result
    (λ kind. ReadsReturn (ReturnHead name) (before_value name kind) (seen remaining old) (seen remaining new) old.place new.place)
    (λ stop. StopsReturn (ReturnHead name) (seen remaining old) (seen remaining new) old.place stop)

-- A whole return value was read, or that stopped.
abbrev pub ReturnPassed : {R U : Type 0} → (R → Option (List ℕ)) → (old new : Payload R) → Result U Stop → Type 0
ReturnPassed remaining old new result = MatchResult result
    (λ _. ReadsValue (seen remaining old) (seen remaining new) old.place new.place)
    (λ stop. StopsReturn ReturnOrdinal (seen remaining old) (seen remaining new) old.place stop)
