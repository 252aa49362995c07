-- The reading of rows as the contracts of its steps see it.
use Rattle.std.specs.Prelude.{⊤, ◌≡◌, ◌==◌, ◌+◌, ◌<◌, ◌≤◌, ℕ, Bool, true, false, List, [], length, max, Option, None, Result, MatchResult, is_ok}
use Rattle.tds_values.specs.declared.kind.Kind.{Kind}
use Rattle.tds_packet.specs.declared.fault.Stop.{Stop}
use Rattle.tds_packet.specs.declared.payload.Payload.{Payload}
use Rattle.tds_packet.specs.Payloads.{IsGoing, IsSound, LeavesPayload, buffered, seen}
use Rattle.tds_packet.specs.PayloadView.{IsBetween, Takes}
use Rattle.tds_packet.specs.Reads.{KeepsRoom}
use Rattle.tds_text.specs.Quoting.{in_line, null_field}
use Rattle.tds_csv.specs.declared.sink.Sink.{Sink}
use Rattle.tds_csv.specs.Sinks.{IsReady, IsWriting, LeavesSink, PutsPiece}
use Rattle.tds_rows.specs.declared.rows.Rows.{Rows}
use Rattle.tds_cells.specs.declared.row_format.Cursor.{Cursor}
use Rattle.tds_cells.specs.declared.layout.CellFormat.{CellFormat}
use Rattle.tds_cells.specs.Layouts.{IsLaidOut}
use Rattle.tds_cells.specs.Cells.{cell_start, shape}
use Rattle.tds_meter.specs.Space.{Space}
use Rattle.tds_rows.specs.CellSteps.{FieldPut, LeavesSmall}
use Rattle.tds_cells.specs.Rows.{NbcRow, PlainRow, RowToken, bitmap_length}
use Rattle.tds_cells.specs.declared.nulls.Nulls.{Nulls}
use Rattle.tds_cells.specs.declared.nulls.Nulls.TheVariants.{Marked, Unmarked}
use Rattle.tds_rows.specs.LongCells.{CutsBytes}
use Rattle.tds_cells.specs.Rows.{BeginNoRow}

-- A call may be made that reads a row: payload and sink go on or give their stop again, and the small area has room for a scalar cell, of 18 bytes at most.
pub record IsReadyForRow {R W : Type 0} (payload : Payload R) (sink : Sink W) (small : Space) : Type 0 where
  pub sound : IsSound payload
  pub ready : IsReady sink
  pub room : 18 ≤ small.room

-- The payload or the sink had stopped.
abbrev pub HadStopped : {R W : Type 0} → Payload R → Sink W → Type 0
HadStopped p s = p.stopped ≡ None → s.failed ≡ true

-- Rows can be read, or a row is being read: payload and sink go on, and the small area has room for a scalar cell.
pub record AwaitsRows {R W : Type 0} (p : Payload R) (s : Sink W) (small : Space) : Type 0 where
  pub payload : IsGoing p
  pub sink : IsWriting s
  pub room : 18 ≤ small.room

-- A call left payload and sink in order and, if it returned no error, going on, and no more than a cell in the small area.
pub record LeavesLent {R W U : Type 0} (old new : Payload R) (before after : Sink W) (room left : Space) (result : Result U Stop) : Type 0 where
  pub payload : LeavesPayload old new result
  pub sink : LeavesSink before after result
  pub small : LeavesSmall room left

-- A row is being read, and its next cell is of this format.
pub record IsAtCell {R W : Type 0} (rows : Rows R W) (at : Cursor) (format : CellFormat) : Type 0 where
  pub in_row : AwaitsRows rows.payload.now rows.sink.now rows.small.now
  pub within : at.column < rows.row_format.now.count
  pub laid : IsLaidOut rows.row_format.now.charset format.kind format.layout

-- A call left the reading on the same devices and area, by the same row format, with no more than a cell gathered, and, if it returned no error, going on.
pub record LeavesRows {R W U : Type 0} (old new : Rows R W) (result : Result U Stop) : Type 0 where
  pub same : (new.payload.ghost_name ≡ old.payload.ghost_name) × (new.sink.ghost_name ≡ old.sink.ghost_name)
      × (new.small.ghost_name ≡ old.small.ghost_name) × (new.row_format ≡ old.row_format)
  pub payload : LeavesPayload old.payload.now new.payload.now result
  pub sink : LeavesSink old.sink.now new.sink.now result
  pub small : LeavesSmall old.small.now new.small.now

-- The next cell, of this kind, was read and its text put, or the call stopped.
pub record CellRead {R W U : Type 0} (remaining : R → Option (List ℕ)) (contents : W → Option (List ℕ)) (at : Cursor) (kind : Kind) (old new : Rows R W)
    (result : Result U Stop) : Type 0 where
  pub leaves : LeavesRows old new result
  pub cell : FieldPut remaining contents (cell_start kind (shape old.row_format.now.charset kind)) at.column
      (at.column + 1 == old.row_format.now.count) old.payload.now new.payload.now old.sink.now new.sink.now result

-- The next cell was put, NULL or, of this kind, as it was read, or the call stopped.
abbrev pub NextRead : {R W U : Type 0} → (R → Option (List ℕ)) → (W → Option (List ℕ)) → Cursor → Kind → Bool → Rows R W → Rows R W → Result U Stop
    → Type 0
NextRead remaining contents at kind true old new result =
    (new.payload.now ≡ old.payload.now) × PutsPiece contents old.sink.now new.sink.now
    (in_line at.column (at.column + 1 == old.row_format.now.count) null_field) result
NextRead remaining contents at kind false old new result = CellRead remaining contents at kind old new result

-- A bitmap can be read into the area: it is empty, and has room for that of 65,535 columns.
pub record AwaitsBitmap (bitmap : Space) : Type 0 where
  pub empty : bitmap.bytes ≡ []
  pub room : 8192 ≤ bitmap.room
  pub peak : bitmap.peak ≤ bitmap.room

-- The area of a bitmap has the room that it had and its peak within it, and held no more than before or than the bitmap of so many columns.
pub record LeavesBitmap (before after : Space) (columns : ℕ) : Type 0 where
  pub keeps : KeepsRoom before after
  pub bound : after.peak ≤ max before.peak (bitmap_length columns)

-- The bits of a row are these: those of a bitmap of these bytes, or none of a ROW.
abbrev pub MarkedBy : RowToken → List ℕ → Nulls → Type 0
MarkedBy PlainRow bytes Unmarked = ⊤
MarkedBy NbcRow bytes (Marked bitmap) = bitmap.now ≡ bytes
MarkedBy token bytes nulls = ⊥

-- These bytes were read, the bitmap of an NBCROW of so many columns, or the payload stopped in it; of a ROW nothing was read.
abbrev pub BitmapRead : {R U : Type 0} → (R → Option (List ℕ)) → RowToken → Payload R → Payload R → List ℕ → ℕ → Result U Stop → Type 0
BitmapRead remaining PlainRow old new bytes columns result = (new ≡ old) × (is_ok result ≡ true)
BitmapRead remaining NbcRow old new bytes columns result = MatchResult result
    (λ _. (length bytes ≡ bitmap_length columns) × Takes (seen remaining old) (seen remaining new) bytes (length bytes)
    × IsBetween (seen remaining new) × (new.place ≡ old.place + length bytes))
    (λ stop. CutsBytes (bitmap_length columns) (seen remaining old) (seen remaining new) old.place stop)

-- Rows were read, as many as there are up to here and no more than bytes were taken but one, and none is next in the packet.
abbrev pub EndsRows : {R : Type 0} → RowToken → Payload R → Payload R → ℕ → Type 0
EndsRows token old new count = (old.place + count ≤ new.place + 1) × BeginNoRow token (buffered new)
