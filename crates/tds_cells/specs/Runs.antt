-- What a run of cells does, which lie whole in the packet.
use Rattle.std.specs.Prelude.{◌≡◌, ◌==◌, ◌⊎◌, ◌-◌, ◌<◌, ◌≤◌, ℕ, Bool, false, true, List, [], ◌∷◌, ◌++◌, length, map, take, drop, Option, Some, None}
use Rattle.std.specs.Prelude.{MatchOption, if◌then◌else◌, slice_index}
use Rattle.tds_values.specs.declared.kind.Kind.{Kind}
use Rattle.tds_packet.specs.declared.fault.Fault.{Fault}
use Rattle.tds_packet.specs.declared.fault.Fault.TheVariants.{MessageEnded, RefusedToken}
use Rattle.tds_packet.specs.Elements.{Grammar, Spelt}
use Rattle.tds_columns.specs.Description.{Column}
use Rattle.tds_columns.specs.declared.walk.Walk.{Walk}
use Rattle.tds_text.specs.Quoting.{line}
use Rattle.tds_values.specs.declared.charset.Charset.{Charset}
use Rattle.tds_values.specs.declared.span.Span.{Span}
use Rattle.tds_cells.specs.declared.run.RowsSpan.{RowsSpan}
use Rattle.tds_cells.specs.declared.run.FarRun.{FarRun}
use Rattle.tds_cells.specs.declared.run.KnownRun.{KnownRun}
use Rattle.tds_cells.specs.declared.nulls.Nulls.{Nulls}
use Rattle.tds_cells.specs.declared.nulls.Nulls.TheVariants.{Unmarked, Marked}
use Rattle.tds_cells.specs.declared.row_format.Cursor.{Cursor}
use Rattle.tds_cells.specs.declared.row_format.RowFormat.{RowFormat}
use Rattle.tds_cells.specs.Cells.{Cell, field}
use Rattle.tds_cells.specs.Rows.{PlainRow, RowPart, RowToken, WholeRow, marked, next_cell, row_add, row_fault, row_size, row_so_far, token_byte}
use Rattle.tds_cells.specs.Rows.{bit, row_start}
use Rattle.tds_cells.specs.MarkedRuns.{CellsWritten, EndsLeft, nulls_of}
use Rattle.tds_cells.specs.CellTexts.{IsLeft, WritesKind, whole_size}
use Rattle.tds_cells.specs.WholeCells.{IsCellSpan}
use Rattle.tds_cells.specs.RowFormats.{IsCursor, Knows, place}

-- The bytes are whole elements, which lead from one state to another, and this is what the text of the second has more than that of the first.
pub record Writes {S : Type 0} (g : Grammar S Fault) (text : S → List ℕ) (from : S) (bytes made : List ℕ) (to : S) : Type 0 where
  pub spelt : Spelt g from bytes to
  pub text_is : text from ++ made ≡ text to

-- a row whose first cells are these, and whose other columns are to come
abbrev pub after_cells : Charset → List Cell → List Column → RowPart
after_cells charset cells left = next_cell charset cells (marked left (λ k. false) (length cells))

-- ---- over the ends of rows

-- rows as far as they are read, each but the first after its token byte: those before, and the one that is read
pub record RowsPart : Type 0 where
  pub before : List (List Cell)
  pub at : RowPart

-- how many bytes the next element of rows has: a token byte after a whole row
abbrev pub rows_size : RowPart → ℕ
rows_size (WholeRow cells) = 1
rows_size part = row_size part

-- the first fault of an element of rows: a token byte that is another token's
abbrev pub rows_fault : RowToken → RowPart → List ℕ → Option Fault
rows_fault token (WholeRow cells) element = if slice_index element 0 == token_byte token then None else Some (RefusedToken (slice_index element 0))
rows_fault token part element = row_fault part element

-- the state after an element of rows
abbrev pub rows_add : RowToken → Charset → List Column → List (List Cell) → RowPart → List ℕ → RowsPart
rows_add token charset columns before (WholeRow cells) element = record { before = before ++ cells ∷ []; at = row_start token charset columns }
rows_add token charset columns before part element = record { before = before; at = row_add charset part element }

-- How rows of one token are read, one after another.
abbrev pub rows : RowToken → Charset → List Column → Grammar RowsPart Fault
rows token charset columns = record {
  size = λ p. rows_size p.at;
  fault = λ p element. rows_fault token p.at element;
  add = λ p element. rows_add
      token charset columns p.before p.at element;
  end_fault = λ p. Some MessageEnded;
}

-- the lines of whole rows
abbrev pub lines : List (List Cell) → List ℕ
lines [] = []
lines (r ∷ rs) = line (map field r) ++ lines rs

-- the text so far of rows
abbrev pub rows_so_far : RowsPart → List ℕ
rows_so_far p = lines p.before ++ row_so_far p.at

-- The bytes are more cells after these, over the ends of this many rows, and this is their text; the columns left come after.
pub record WritesRows (charset : Charset) (all : List Column) (cells : List Cell) (columns left : List Column) (column count : ℕ)
    (bytes made : List ℕ) : Type 0 where
  pub before : List (List Cell)
  pub more : List Cell
  pub rows_counted : length before ≡ count
  pub counted : length more ≡ column
  pub writes : Writes (rows PlainRow charset all) rows_so_far (record { before = []; at = after_cells charset cells columns }) bytes made
      (record { before = before; at = after_cells charset more left })

-- ---- what a run gives, whatever the columns that its row format knows, and whatever the cells before it

-- A run within a row used and made no more than there is, went on if it used a byte and stayed if it used none, and not beyond its end.
pub record StaysWithin (from to : Cursor) (end bytes room : ℕ) (run : Span) : Type 0 where
  pub used : run.used ≤ bytes
  pub made : run.made ≤ room
  pub further : 0 < run.used → from.column < to.column
  pub stays : run.used ≡ 0 → to ≡ from
  pub before : from.column ≤ end → to.column ≤ end

-- A run within a row that ended before this column ended before a cell that is left, or without room for every scalar.
abbrev pub LeavesNext : RowFormat → Cursor → Cursor → ℕ → List ℕ → ℕ → Type 0
LeavesNext row_format from to until bytes room = (columns : List Column) (column : Column) (left : List Column) → Knows row_format columns
    → IsCursor row_format columns from → to.column < until → drop to.column columns ≡ column ∷ left →
    (room < 66) ⊎ IsLeft row_format.charset column.kind bytes room

-- The cell of this kind at the front of these bytes was written, and its text in its line; or it is left, with this much room.
abbrev pub AloneWritten : Charset → Kind → ℕ → Bool → List ℕ → ℕ → List ℕ → Option Span → Type 0
AloneWritten charset kind column last bytes room text result =
    MatchOption result (IsLeft charset kind bytes room) (λ written. IsCellSpan (whole_size kind bytes) (length bytes) room written
    × WritesKind charset kind column last (take written.used bytes) (take written.made text))

-- These bytes were used and this text was written, over the ends of so many rows, between two places of rows; single-byte text was read in the row
-- format's set.
abbrev pub RowsWritten : RowFormat → Cursor → Cursor → ℕ → List ℕ → List ℕ → Type 0
RowsWritten row_format from to rows bytes text = (columns : List Column) → Knows row_format columns → IsCursor row_format columns from →
    IsCursor row_format columns to × ((charset : Charset) (cells : List Cell) → row_format.charset ≡ charset → length cells ≡ from.column →
    WritesRows charset columns cells (drop from.column columns) (drop to.column columns) to.column rows bytes text)

-- These bytes were used and this text was written: of a row with a bitmap, within it, and else over the ends of so many rows.
abbrev pub RunWritten : RowFormat → Nulls → Cursor → Cursor → ℕ → List ℕ → List ℕ → Type 0
RunWritten row_format Unmarked from to rows bytes text = RowsWritten row_format from to rows bytes text
RunWritten row_format (Marked bitmap) from to rows bytes text = (rows ≡ 0) × CellsWritten row_format (bit bitmap.now) from to bytes text

-- A run between two places used and made no more than there is, began fewer rows than it used bytes, and wrote the text of these.
pub record Ran (row_format : RowFormat) (nulls : Nulls) (from to : Cursor) (bytes text : List ℕ) (run : RowsSpan) : Type 0 where
  pub used : run.used ≤ length bytes
  pub made : run.made ≤ length text
  pub few : run.rows ≤ run.used
  pub writes : RunWritten row_format nulls from to run.rows (take run.used bytes) (take run.made text)

-- A run over rows all of whose columns the row format knows did so from this column on, whatever the walk.
pub record KnownRan (row_format : RowFormat) (column : ℕ) (bytes text : List ℕ) (run : KnownRun) : Type 0 where
  pub used : run.used ≤ length bytes
  pub made : run.made ≤ length text
  pub few : run.rows ≤ run.used
  pub writes : (walk : Walk)
      → RowsWritten row_format (place walk column) (place walk run.column) run.rows (take run.used bytes) (take run.made text)

-- A run over such rows that says so ended before a cell that it left.
pub record TellsLeft (row_format : RowFormat) (bytes : List ℕ) (room : ℕ) (run : FarRun) : Type 0 where
  pub within : run.left ≡ true → run.run.column < row_format.count
  pub ends : run.left ≡ true → (walk : Walk)
      → EndsLeft row_format (nulls_of Unmarked) (place walk run.run.column) (drop run.run.used bytes) (room - run.run.made)

-- A run that doesn't say so ended where bytes or room are too few for any scalar, or after a row.
abbrev pub EndsShort : RowFormat → List ℕ → ℕ → FarRun → Type 0
EndsShort row_format bytes room run = run.left ≡ false
    → (length (drop run.run.used bytes) < 19) ⊎ ((room - run.run.made < 66) ⊎ (row_format.count ≤ run.run.column))
