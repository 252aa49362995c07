-- What a run over NBCROWs does, which lie whole in the packet.
use Rattle.std.specs.Prelude.{◌≡◌, ◌⊎◌, ◌-◌, ◌<◌, ℕ, zero, suc, Bool, false, true, List, [], ◌∷◌, ◌++◌, length, take, drop}
use Rattle.tds_values.specs.declared.charset.Charset.{Charset}
use Rattle.tds_columns.specs.Description.{Column}
use Rattle.tds_cells.specs.declared.row_format.Cursor.{Cursor}
use Rattle.tds_cells.specs.declared.row_format.RowFormat.{RowFormat}
use Rattle.tds_cells.specs.MarkedRuns.{CellsWritten, EndsFar, WritesMarked}
use Rattle.tds_cells.specs.RowFormats.{IsCursor, Knows}
use Rattle.tds_cells.specs.Rows.{BeginNoRow, NbcRow, bit, bitmap_length, token_byte}

-- The bytes are the bitmap and the cells of an NBCROW, and this is its line.
pub record WritesNbcRow (charset : Charset) (columns : List Column) (bytes text : List ℕ) : Type 0 where
  pub bitmap : List ℕ
  pub cells : List ℕ
  pub joined : bytes ≡ bitmap ++ cells
  pub whole : length bitmap ≡ bitmap_length (length columns)
  pub writes : WritesMarked charset columns (bit bitmap) 0 (length columns) cells text

-- The bytes are this many NBCROWs, each before the token byte of the next, and these are their lines.
abbrev pub WritesNbcRows : Charset → List Column → ℕ → List ℕ → List ℕ → Type 0
WritesNbcRows charset columns zero bytes text = (bytes ≡ []) × (text ≡ [])
WritesNbcRows charset columns (suc n) bytes text = (front : List ℕ) × (row : List ℕ) × (before : List ℕ) × (line : List ℕ)
    × (bytes ≡ front ++ (row ++ token_byte NbcRow ∷ [])) × (text ≡ before ++ line) × WritesNbcRows charset columns n front before
    × WritesNbcRow charset columns row line

-- The bytes are so many, and one more if that is the last, and these are their lines.
abbrev pub WritesWholeRows : Charset → List Column → ℕ → Bool → List ℕ → List ℕ → Type 0
WritesWholeRows charset columns n false bytes text = WritesNbcRows charset columns n bytes text
WritesWholeRows charset columns n true bytes text = (front : List ℕ) × (row : List ℕ) × (before : List ℕ) × (line : List ℕ)
    × (bytes ≡ front ++ row) × (text ≡ before ++ line) × WritesNbcRows charset columns n front before × WritesNbcRow charset columns row line

-- The next NBCROW isn't written so, with this much room: the run over its cells, from the row's start on, ends before the row does.
pub record LeavesNbcRow (row_format : RowFormat) (bitmap cells : List ℕ) (room : ℕ) : Type 0 where
  pub from : Cursor
  pub to : Cursor
  pub used : ℕ
  pub text : List ℕ
  pub first : from.column ≡ 0
  pub begins : (columns : List Column) → Knows row_format columns → IsCursor row_format columns from
  pub writes : CellsWritten row_format (bit bitmap) from to (take used cells) text
  pub far : EndsFar row_format (bit bitmap) to (drop used cells) (room - length text)
  pub early : to.column ≡ row_format.count → ⊥

-- No NBCROW follows the last one; or the bitmap of the next one isn't whole, or it isn't written so.
abbrev pub EndsNbcRows : RowFormat → ℕ → Bool → List ℕ → ℕ → Type 0
EndsNbcRows row_format size true bytes room = BeginNoRow NbcRow bytes
EndsNbcRows row_format size false bytes room = (length bytes < size) ⊎ LeavesNbcRow row_format (take size bytes) (drop size bytes) room
