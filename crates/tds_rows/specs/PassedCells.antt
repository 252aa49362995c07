-- What passing over the value of a RETURNVALUE does.
use Rattle.std.specs.Prelude.{◌≡◌, ℕ, ◌+◌, ◌%◌, ◌<◌, true, List, length, Option, Result, MatchResult}
use Rattle.tds_packet.specs.declared.fault.Stop.{Stop}
use Rattle.tds_packet.specs.declared.payload.Payload as payloads
use Rattle.tds_packet.specs.Payloads.{seen}
use Rattle.tds_packet.specs.Reading.{Reads, StopsReading}
use Rattle.tds_packet.specs.PayloadView.{PayloadView, Takes, Ends, IsBetween, began_at}
use Rattle.tds_columns.specs.ReturnedType.{return_column}
use Rattle.tds_text.specs.Conversion.{Conversion, is_begun, is_fit, unit}
use Rattle.tds_cells.specs.Cells.{Cell, CellPart, WholeCell, cell}

-- Any bytes may be such data, in units of this many.
pub record AnyData (c : Conversion) (size : ℕ) : Type 0 where
  pub begun : (bytes : List ℕ) → is_begun c bytes ≡ true
  pub fit : (bytes : List ℕ) → length bytes % size ≡ 0 → is_fit c bytes ≡ true
  pub unit_is : unit c ≡ size

-- This number of bytes was handed out.
pub record PassesData (n : ℕ) (old new : PayloadView) (place place' : ℕ) : Type 0 where
  pub bytes : List ℕ
  pub counted : length bytes ≡ n
  pub takes : Takes old new bytes n
  pub between : IsBetween new
  pub place_is : place' ≡ place + n

-- The payload stopped before this number of bytes; if the message ended, the stop is at the byte that is missing.
pub record CutsPassing (n : ℕ) (old new : PayloadView) (place : ℕ) (stop : Stop) : Type 0 where
  pub bytes : List ℕ
  pub own : Stop
  pub fewer : length bytes < n
  pub ends : Ends old new bytes own
  pub stop_is : stop ≡ began_at (place + length bytes) own

-- Whole elements of the value of a RETURNVALUE were read without a fault, which lead from one state to another.
pub record StepsOver (from to : CellPart) (old new : PayloadView) (place place' : ℕ) : Type 0 where
  pub reads : Reads (cell return_column) from old new to
  pub between : IsBetween new
  pub place_is : place' ≡ place + length reads.bytes

-- Reading a value stopped: at the first fault of an element, or as the payload does.
pub record StopsPassing (from : CellPart) (old new : PayloadView) (place : ℕ) (stop : Stop) : Type 0 where
  pub at : CellPart
  pub stops : StopsReading (cell return_column) from old new place at stop

-- A whole value was read, and no byte after it.
pub record PassesCell (from : CellPart) (old new : PayloadView) (place place' : ℕ) : Type 0 where
  pub value : Cell
  pub steps : StepsOver from (WholeCell value) old new place place'

-- A value was read from this state on, or the reading stopped.
abbrev pub CellPassed : {R U : Type 0} → (R → Option (List ℕ)) → CellPart → payloads.Payload R → payloads.Payload R → Result U Stop → Type 0
CellPassed remaining from old new result = MatchResult result
    (λ _. PassesCell from (seen remaining old) (seen remaining new) old.place new.place)
    (λ stop. StopsPassing from (seen remaining old) (seen remaining new) old.place stop)
