-- What a run of cells or rows does between a payload and a sink.
use Rattle.std.specs.Prelude.{◌≡◌, ◌+◌, ℕ, Bool, true, List, length}
use Rattle.tds_packet.specs.declared.fault.Stop.{Stop}
use Rattle.tds_packet.specs.PayloadView.{IsBetween, PayloadView, Takes}
use Rattle.tds_csv.specs.Sinks.{Puts, SinkView, WritesPrefix}
use Rattle.tds_cells.specs.declared.row_format.Cursor.{Cursor}
use Rattle.tds_cells.specs.declared.row_format.RowFormat.{RowFormat}
use Rattle.tds_cells.specs.declared.nulls.Nulls.{Nulls}
use Rattle.tds_cells.specs.Runs.{RunWritten}

-- Bytes were read, without a packet, and their text put, of which this is true.
pub record PutsRun (writes : List ℕ → List ℕ → Type 0) (old new : PayloadView) (place place' : ℕ) (before after : SinkView) : Type 0 where
  pub bytes : List ℕ
  pub text : List ℕ
  pub wrote : writes bytes text
  pub takes : Takes old new bytes 0
  pub puts : Puts before after text
  pub place_is : place' ≡ place + length bytes

-- Cells from a place on were read, without a packet, over the ends of so many rows, and a write of their text failed.
pub record WritesPrefixOfRun (row_format : RowFormat) (nulls : Nulls) (from : Cursor) (old new : PayloadView) (before after : SinkView) (failed : Bool)
    (stop : Stop) : Type 0 where
  pub to : Cursor
  pub rows : ℕ
  pub bytes : List ℕ
  pub text : List ℕ
  pub wrote : RunWritten row_format nulls from to rows bytes text
  pub takes : Takes old new bytes 0
  pub between : IsBetween new
  pub breaks : WritesPrefix before after text stop
  pub failed_is : failed ≡ true
