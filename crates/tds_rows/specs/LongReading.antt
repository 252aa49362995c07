-- The reading of long values as the contracts of its steps see it.
use Rattle.std.specs.Prelude.{◌≡◌, ◌<◌, ℕ, Bool, List, [], Option, Result}
use Rattle.tds_packet.specs.declared.fault.Stop.{Stop}
use Rattle.tds_packet.specs.declared.payload.Payload.{Payload}
use Rattle.tds_packet.specs.Payloads.{IsGoing, LeavesPayload, seen}
use Rattle.tds_csv.specs.declared.sink.Sink.{Sink}
use Rattle.tds_csv.specs.Sinks.{IsWriting, LeavesSink, held}
use Rattle.tds_rows.specs.declared.cell.streamed.LongValue.{LongValue}
use Rattle.tds_rows.specs.Blames.{Blames, failures_of}
use Rattle.tds_rows.specs.CellSteps.{FieldPut}
use Rattle.tds_rows.specs.ChunkRuns.{RunsChunks}
use Rattle.tds_rows.specs.RunPuts.{PutsRun}
use Rattle.tds_cells.specs.Cells.{CellPart}

-- Data is being joined: the payload hands out bytes, the sink takes text, and some whole data begins with what is withheld.
pub record IsJoining {J R W : Type 0} (begins : List ℕ → Type 0) (withheld : J → List ℕ) (value : LongValue J R W) : Type 0 where
  pub payload : IsGoing value.payload.now
  pub sink : IsWriting value.sink.now
  pub begun : begins (withheld value.joiner.now)

-- A long value can be read by a joiner that withholds nothing, of data in units of so many bytes.
pub record AwaitsValue {R W : Type 0} (begins : List ℕ → Type 0) (withheld : List ℕ) (unit : ℕ) (p : Payload R) (s : Sink W) : Type 0 where
  pub payload : IsGoing p
  pub sink : IsWriting s
  pub begun : begins withheld
  pub unit_some : 0 < unit
  pub withheld_none : withheld ≡ []

-- Two readings of a value are on the same payload, joiner and sink, at the same column.
abbrev pub IsOnSameValue : {J R W : Type 0} → LongValue J R W → LongValue J R W → Type 0
IsOnSameValue old new = (new.payload.ghost_name ≡ old.payload.ghost_name) × (new.joiner.ghost_name ≡ old.joiner.ghost_name)
    × (new.sink.ghost_name ≡ old.sink.ghost_name) × (new.column ≡ old.column) × (new.last ≡ old.last)

-- A call left payload and sink of a value in order, on the same devices and areas, and, if it returned no error, going on.
pub record LeavesValue {J R W U : Type 0} (old new : LongValue J R W) (result : Result U Stop) : Type 0 where
  pub same : IsOnSameValue old new
  pub payload : LeavesPayload old.payload.now new.payload.now result
  pub sink : LeavesSink old.sink.now new.sink.now result

-- A success has no failure of a device; a stop that names a device's fault comes after one.
abbrev pub BlamesDevices : {J R W U : Type 0} → LongValue J R W → LongValue J R W → Result U Stop → Type 0
BlamesDevices old new result = Blames (failures_of old.payload.now old.sink.now) (failures_of new.payload.now new.sink.now) result

-- The value was read from this state on and its text put, or the call stopped.
abbrev pub ValuePut : {J R W U : Type 0} → (R → Option (List ℕ)) → (W → Option (List ℕ)) → CellPart → LongValue J R W → LongValue J R W
    → Result U Stop → Type 0
ValuePut remaining contents start old new result =
    FieldPut remaining contents start old.column old.last old.payload.now new.payload.now old.sink.now new.sink.now result

-- Chunks after so many bytes of data, with as many as the call returns, were read without a packet and their text put.
abbrev pub ChunksTaken : {J R W : Type 0} → (List ℕ → Type 0) → (List ℕ → Type 0) → (List ℕ → List ℕ) → (List ℕ → List ℕ) → ℕ → Bool → (J → List ℕ)
    → (R → Option (List ℕ)) → (W → Option (List ℕ)) → Option ℕ → ℕ → LongValue J R W → LongValue J R W → ℕ → Type 0
ChunksTaken fit begins rest text unit quoted withheld remaining contents total sum old new n =
    PutsRun (RunsChunks fit begins rest text unit quoted (withheld old.joiner.now) (withheld new.joiner.now) total sum n)
    (seen remaining old.payload.now) (seen remaining new.payload.now) old.payload.now.place new.payload.now.place
    (held contents old.sink.now) (held contents new.sink.now)
