-- What reading a row and putting its line does. Its start is that of a ROW or of an NBCROW.
use Rattle.std.specs.Prelude.{◌≡◌, ◌+◌, ℕ, Bool, List, [], length, Option, None, true, Result, Err, IfOk, IfSome, MatchResult}
use Rattle.tds_packet.specs.declared.fault.Stop.{Stop}
use Rattle.tds_packet.specs.declared.payload.Payload.{Payload}
use Rattle.tds_packet.specs.Payloads.{seen}
use Rattle.tds_packet.specs.PayloadView.{PayloadView}
use Rattle.tds_columns.specs.Description.{Column}
use Rattle.tds_csv.specs.declared.sink.Sink.{Sink}
use Rattle.tds_csv.specs.Sinks.{SinkView, held, stop_of}
use Rattle.tds_csv.specs.Streaming.{StopsStreaming, Streams}
use Rattle.tds_values.specs.declared.charset.Charset.{Charset}
use Rattle.tds_cells.specs.Cells.{Cell}
use Rattle.tds_cells.specs.Rows.{NbcRow, PlainRow, RowPart, RowToken, WholeRow, row, row_so_far, row_start}
use Rattle.tds_cells.specs.Runs.{rows, rows_so_far}

-- A row was read, and its line put.
pub record ReadsRow (charset : Charset) (start : RowPart) (old new : PayloadView) (place place' : ℕ) (before after : SinkView) : Type 0 where
  pub cells : List Cell
  pub streams : Streams (row charset) row_so_far start old new before after (WholeRow cells)
  pub place_is : place' ≡ place + length streams.bytes

-- A row was read and its line put, or the call stopped: at an element that is refused or cut, with the text of the state that it reached; or in
-- writing.
abbrev pub RowPut : {R W U : Type 0} → (R → Option (List ℕ)) → (W → Option (List ℕ)) → Charset → RowPart → Payload R → Payload R → Sink W → Sink W
    → Result U Stop → Type 0
RowPut remaining contents charset start old new before after result = MatchResult result
    (λ _. ReadsRow charset start (seen remaining old) (seen remaining new) old.place new.place (held contents before) (held contents after))
    (λ stop. StopsStreaming (row charset) row_so_far start (seen remaining old) (seen remaining new) old.place (held contents before)
    (held contents after) after.failed stop)

-- Rows were read, this many, and their lines put.
pub record ReadsRows (token : RowToken) (charset : Charset) (columns : List Column) (count : ℕ) (old new : PayloadView) (place place' : ℕ)
    (before after : SinkView) : Type 0 where
  pub earlier : List (List Cell)
  pub last : List Cell
  pub counted : count ≡ length earlier + 1
  pub streams : Streams (rows token charset columns) rows_so_far (record { before = []; at = row_start token charset columns }) old new before after
      (record { before = earlier; at = WholeRow last })
  pub place_is : place' ≡ place + length streams.bytes

-- Rows were read and their lines put, as far as a place in a row, and there the reading of that row stopped.
pub record RowsStop (token : RowToken) (charset : Charset) (columns : List Column) (old new : PayloadView) (place : ℕ) (before after : SinkView) (failed : Bool)
    (stop : Stop) : Type 0 where
  pub earlier : List (List Cell)
  pub part : RowPart
  pub middle : PayloadView
  pub between : SinkView
  pub streams : Streams (rows token charset columns) rows_so_far (record { before = []; at = row_start token charset columns }) old middle before
      between (record { before = earlier; at = part })
  pub stops : StopsStreaming (row charset) row_so_far part middle new (place + length streams.bytes) between after failed stop

-- Rows were read and their lines put, or the call stopped in one of them.
abbrev pub RowsRead : {R W : Type 0} → (R → Option (List ℕ)) → (W → Option (List ℕ)) → RowToken → Charset → List Column → Payload R → Payload R
    → Sink W → Sink W → Result ℕ Stop → Type 0
RowsRead remaining contents token charset columns old new before after result = MatchResult result
    (λ count. ReadsRows token charset columns count (seen remaining old) (seen remaining new) old.place new.place (held contents before)
    (held contents after))
    (λ stop. RowsStop token charset columns (seen remaining old) (seen remaining new) old.place (held contents before) (held contents after)
    after.failed stop)

-- An NBCROW was read and its line put, or ROWs, this many, and their lines; or the call stopped.
abbrev pub SomeRead : {R W : Type 0} → (R → Option (List ℕ)) → (W → Option (List ℕ)) → RowToken → Charset → List Column → Payload R → Payload R
    → Sink W → Sink W → Result ℕ Stop → Type 0
SomeRead remaining contents PlainRow charset columns old new before after result =
    RowsRead remaining contents PlainRow charset columns old new before after result
SomeRead remaining contents NbcRow charset columns old new before after result = IfOk result (λ count. count ≡ 1)
    × RowPut remaining contents charset (row_start NbcRow charset columns) old new before after result

-- A payload or a sink that had stopped gives its stop again, the payload's first, and nothing changes.
pub record StopsAgain {R W U : Type 0} (contents : W → Option (List ℕ)) (old new : Payload R) (before after : Sink W) (result : Result U Stop) : Type
    0 where
  pub stopped : IfSome old.stopped (λ stop. (result ≡ Err stop) × (new ≡ old) × (after ≡ before))
  pub failed : old.stopped ≡ None → before.failed ≡ true → (result ≡ Err (stop_of (held contents before))) × (new ≡ old) × (after ≡ before)
