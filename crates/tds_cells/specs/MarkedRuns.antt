-- What a run over the cells of an NBCROW does, which are NULL by their bit or lie whole in the packet.
use Rattle.std.specs.Prelude.{◌≡◌, ◌⊎◌, ◌+◌, ◌*◌, ◌<◌, ◌≤◌, ℕ, ⊤, zero, suc, Bool, true, false, List, [], ◌∷◌, ◌++◌, length, drop}
use Rattle.tds_columns.specs.Description.{Column}
use Rattle.tds_text.specs.Quoting.{in_line, null_field}
use Rattle.tds_values.specs.declared.charset.Charset.{Charset}
use Rattle.tds_cells.specs.declared.nulls.Nulls.{Nulls}
use Rattle.tds_cells.specs.declared.nulls.Nulls.TheVariants.{Unmarked, Marked}
use Rattle.tds_cells.specs.declared.row_format.Cursor.{Cursor}
use Rattle.tds_cells.specs.declared.row_format.RowFormat.{RowFormat}
use Rattle.tds_cells.specs.Cells.{cell_start, shape}
use Rattle.tds_cells.specs.Rows.{bit}
use Rattle.tds_cells.specs.CellTexts.{IsLeft, is_last_column}
use Rattle.tds_cells.specs.RowFormats.{IsCursor, Knows}
use Rattle.tds_cells.specs.WholeCells.{WritesWhole}

-- which columns of a row are NULL by a bit: none of a ROW
abbrev pub nulls_of : Nulls → ℕ → Bool
nulls_of Unmarked = λ k. false
nulls_of (Marked bitmap) = bit bitmap.now

-- A bitmap, if there is one, has a bit for each of this many columns.
abbrev pub Covers : Nulls → ℕ → Type 0
Covers Unmarked count = ⊤
Covers (Marked bitmap) count = count ≤ 8 * length bitmap.now

-- The columns from one up to another are all NULL by their bit, or none is.
abbrev pub BitsAre : Bool → (ℕ → Bool) → ℕ → ℕ → Type 0
BitsAre null nulls from end = (k : ℕ) → from ≤ k → k < end → nulls k ≡ null

-- The bytes are the cell of the column after this number of them, none if it is NULL by its bit, and this is its text in its line.
pub record WritesColumn (charset : Charset) (columns : List Column) (nulls : ℕ → Bool) (at : ℕ) (bytes text : List ℕ) : Type 0 where
  pub column : Column
  pub left : List Column
  pub next : drop at columns ≡ column ∷ left
  pub null : nulls at ≡ true → (bytes ≡ []) × (text ≡ in_line at (is_last_column left) null_field)
  pub cell : nulls at ≡ false → WritesWhole (cell_start column.kind (shape charset column.kind)) at (is_last_column left) bytes text

-- The bytes are the cells of this many columns from one on, each but those that are NULL by their bit, and this is their text in their line.
abbrev pub WritesMarked : Charset → List Column → (ℕ → Bool) → ℕ → ℕ → List ℕ → List ℕ → Type 0
WritesMarked charset columns nulls from zero bytes text = (bytes ≡ []) × (text ≡ [])
WritesMarked charset columns nulls from (suc n) bytes text = (front : List ℕ) × (rest : List ℕ) × (before : List ℕ) × (more : List ℕ)
    × (bytes ≡ front ++ rest) × (text ≡ before ++ more) × WritesMarked charset columns nulls from n front before
    × WritesColumn charset columns nulls (from + n) rest more

-- Between two places of a row the bytes are the cells, each but those that are NULL by their bit, and this is their text; single-byte text is read in
-- the row format's set.
pub record RunsMarked (row_format : RowFormat) (columns : List Column) (nulls : ℕ → Bool) (from to : Cursor) (bytes text : List ℕ) : Type 0 where
  pub count : ℕ
  pub ahead : IsCursor row_format columns to
  pub further : to.column ≡ from.column + count
  pub writes : WritesMarked row_format.charset columns nulls from.column count bytes text

-- ---- what a run gives, whatever the columns that its row format knows

-- The next cell isn't NULL by its bit and is left, with this much room; or there isn't room for every scalar, or none is ahead.
abbrev pub EndsLeft : RowFormat → (ℕ → Bool) → Cursor → List ℕ → ℕ → Type 0
EndsLeft row_format nulls at bytes room = (columns : List Column) (column : Column) (left : List Column) → Knows row_format columns
    → IsCursor row_format columns at
    → drop at.column columns ≡ column ∷ left →
    (room < 66) ⊎ ((nulls at.column ≡ false) × IsLeft row_format.charset column.kind bytes room)

-- A run ended there, or where bytes or room are too few for any scalar.
abbrev pub EndsFar : RowFormat → (ℕ → Bool) → Cursor → List ℕ → ℕ → Type 0
EndsFar row_format nulls at bytes room = (length bytes < 19) ⊎ ((room < 66) ⊎ EndsLeft row_format nulls at bytes room)

-- These bytes were used and this text was written: those of the cells between two places of a row, whatever the columns that its row format knows.
abbrev pub CellsWritten : RowFormat → (ℕ → Bool) → Cursor → Cursor → List ℕ → List ℕ → Type 0
CellsWritten row_format nulls from to bytes text = (columns : List Column) → Knows row_format columns → IsCursor row_format columns from →
    RunsMarked row_format columns nulls from to bytes text
