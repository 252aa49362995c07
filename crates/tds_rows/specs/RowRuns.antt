-- What a run of cells does, on success and if a write of its text fails.
use Rattle.std.specs.Prelude.{◌+◌, ◌≤◌, ℕ, List, Option, Result, IfOk, MatchResult}
use Rattle.tds_packet.specs.declared.fault.Stop.{Stop}
use Rattle.tds_rows.specs.declared.rows.Rows.{Rows}
use Rattle.tds_cells.specs.declared.row_format.Cursor.{Cursor}
use Rattle.tds_cells.specs.Runs.{RunWritten}
use Rattle.tds_csv.specs.Sinks.{held}
use Rattle.tds_packet.specs.Payloads.{seen}
use Rattle.tds_cells.specs.declared.nulls.Nulls.{Nulls}
use Rattle.tds_rows.specs.RowReading.{LeavesRows}
use Rattle.tds_rows.specs.RunPuts.{PutsRun, WritesPrefixOfRun}

-- The cells of a run from one place to another were read and their text put, over the ends of so many rows; or a write of it failed.
pub record RunRead {R W : Type 0} (remaining : R → Option (List ℕ)) (contents : W → Option (List ℕ)) (nulls : Nulls) (from to : Cursor)
    (old new : Rows R W) (result : Result ℕ Stop) : Type 0 where
  pub leaves : LeavesRows old new result
  pub few : IfOk result (λ count. old.payload.now.place + count ≤ new.payload.now.place)
  pub cells : MatchResult result
      (λ count. PutsRun (RunWritten old.row_format.now nulls from to count) (seen remaining old.payload.now) (seen remaining new.payload.now)
      old.payload.now.place new.payload.now.place (held contents old.sink.now) (held contents new.sink.now))
      (λ stop. WritesPrefixOfRun old.row_format.now nulls from (seen remaining old.payload.now) (seen remaining new.payload.now)
      (held contents old.sink.now) (held contents new.sink.now) new.sink.now.failed stop)
