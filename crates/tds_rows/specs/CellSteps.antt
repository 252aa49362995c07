-- What reading a cell and putting it into its line does.
use Rattle.std.specs.Prelude.{◌≡◌, ◌+◌, ◌<◌, ◌≤◌, ℕ, Bool, List, length, max, Option}
use Rattle.std.specs.Prelude.{None, Result, Err, MatchResult}
use Rattle.tds_meter.specs.Space.{Space}
use Rattle.tds_values.specs.declared.kind.Kind.{Kind}
use Rattle.tds_values.specs.Front.{scalar_size, value_bytes, value_length, value_start}
use Rattle.tds_values.specs.Scalar.{read_of}
use Rattle.tds_values.specs.declared.scalar.ValueFault.{ValueFault}
use Rattle.tds_values.specs.declared.scalar.ValueFault.TheVariants as faults
use Rattle.tds_packet.specs.declared.fault.Fault.TheVariants.{BadValue, BadValueLength}
use Rattle.tds_packet.specs.declared.fault.Place.TheVariants.{Payload}
use Rattle.tds_packet.specs.declared.fault.Stop.{Stop}
use Rattle.tds_packet.specs.declared.payload.Payload as payloads
use Rattle.tds_packet.specs.Payloads.{LeavesPayload, seen}
use Rattle.tds_packet.specs.Reading.{StopsReading}
use Rattle.tds_packet.specs.PayloadView.{PayloadView, Takes, IsBetween}
use Rattle.tds_csv.specs.declared.sink.Sink.{Sink}
use Rattle.tds_csv.specs.Sinks.{SinkView, held}
use Rattle.tds_csv.specs.Streaming.{StopsStreaming, Streams}
use Rattle.tds_cells.specs.Cells.{Cell, CellPart, WholeCell, cell, field_so_far}
use Rattle.tds_cells.specs.CellTexts.{cell_so_far}

-- Reading a cell stopped before it had any text.
pub record StallsCell (from : CellPart) (column : ℕ) (old new : PayloadView) (place : ℕ) (stop : Stop) : Type 0 where
  pub at : CellPart
  pub stops : StopsReading (cell column) from old new place at stop
  pub quiet : field_so_far at ≡ None

-- A cell was read from its first element on, and its text put.
pub record PutsField (from : CellPart) (column : ℕ) (last : Bool) (old new : PayloadView) (place place' : ℕ) (before after : SinkView) : Type 0 where
  pub value : Cell
  pub streams : Streams (cell column) (cell_so_far column last) from old new before after (WholeCell value)
  pub place_is : place' ≡ place + length streams.bytes

-- the stop at a scalar cell that begins at this place, whose value, or the length before it, is refused
abbrev pub refusal : Kind → ℕ → ℕ → ValueFault → Stop
refusal kind column place faults.Length = record { fault = BadValueLength column; place = Payload place }
refusal kind column place faults.Value = record { fault = BadValue column; place = Payload (place + value_start kind) }

-- The bytes of a scalar cell were read, whose length is allowed; and if its value is refused, this is the stop.
pub record GathersCell (kind : Kind) (from : CellPart) (column : ℕ) (old new : PayloadView) (place place' : ℕ) (bytes : List ℕ) : Type 0 where
  pub whole : length bytes ≡ scalar_size kind bytes
  pub takes : Takes old new bytes (length bytes)
  pub between : IsBetween new
  pub place_is : place' ≡ place + length bytes
  pub refused : (fault : ValueFault) → 0 < value_length kind bytes → read_of kind (value_bytes kind bytes) ≡ Err fault
      → StallsCell from column old new place (refusal kind column place fault)

-- The area in which cells are gathered has the room that it had, and held no more than before or than the longest scalar cell: a length and a decimal.
pub record LeavesSmall (before after : Space) : Type 0 where
  pub room : after.room ≡ before.room
  pub bound : after.peak ≤ max before.peak 18

-- A call left the payload sound, on the same reader and area, and going if it returned no error, with no more than a cell gathered in this area.
pub record LeavesGathering {R U : Type 0} (old new : payloads.Payload R) (before after : Space) (result : Result U Stop) : Type 0 where
  pub payload : LeavesPayload old new result
  pub small : LeavesSmall before after

-- These bytes, those of a scalar cell, were read from this state on; or the reading stopped.
abbrev pub CellGathered : {R U : Type 0} → (R → Option (List ℕ)) → Kind → CellPart → ℕ → payloads.Payload R → payloads.Payload R → List ℕ
    → Result U Stop → Type 0
CellGathered remaining kind from column old new cell result = MatchResult result
    (λ _. GathersCell kind from column (seen remaining old) (seen remaining new) old.place new.place cell)
    (λ stop. StallsCell from column (seen remaining old) (seen remaining new) old.place stop)

-- A cell was read from its first element on and its text put; or the call stopped, since it wasn't whole or is refused, or a write of its text failed.
abbrev pub FieldPut : {R W U : Type 0} → (R → Option (List ℕ)) → (W → Option (List ℕ)) → CellPart → ℕ → Bool → payloads.Payload R → payloads.Payload R
    → Sink W → Sink W → Result U Stop → Type 0
FieldPut remaining contents from column last old new before after result = MatchResult result
    (λ _. PutsField from column last (seen remaining old) (seen remaining new) old.place new.place (held contents before) (held contents after))
    (λ stop. StopsStreaming (cell column) (cell_so_far column last) from (seen remaining old) (seen remaining new) old.place (held contents before)
    (held contents after) after.failed stop)
