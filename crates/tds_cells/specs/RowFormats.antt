-- What a row format of a description's columns knows.
use Rattle.std.specs.Prelude.{◌≡◌, ◌⊎◌, ◌+◌, ◌<◌, ◌≤◌, ℕ, true, List, [], ◌∷◌, length, take, drop, map}
use Rattle.tds_values.specs.declared.kind.Kind.{Kind}
use Rattle.tds_columns.specs.Description.{Column}
use Rattle.tds_columns.specs.Walking.{columns_left}
use Rattle.tds_columns.specs.declared.walk.Walk.{Walk}
use Rattle.std.specs.List.{list_all}
use Rattle.tds_cells.specs.CellTexts.{is_counted, is_int4}
use Rattle.tds_cells.specs.Formats.{Each}
use Rattle.tds_cells.specs.Layouts.{IsLaidOut}
use Rattle.tds_cells.specs.declared.row_format.Learnt.{Learnt}
use Rattle.tds_values.specs.declared.charset.Charset.{Charset}
use Rattle.tds_cells.specs.declared.row_format.Cursor.{Cursor}
use Rattle.tds_cells.specs.declared.layout.CellFormat.{CellFormat}
use Rattle.tds_cells.specs.declared.row_format.RowFormat.{RowFormat}

-- The row format knows these columns: the kinds of the first ones, how many there are, and the walk over those after them.
pub record Knows (row_format : RowFormat) (columns : List Column) : Type 0 where
  pub first : map (λ f. f.kind) (take row_format.known row_format.formats.now) ≡ map (λ c. c.kind) (take row_format.known columns)
  pub counted : row_format.count ≡ length columns
  pub rest : columns_left row_format.rest ≡ drop row_format.known columns

-- Of these columns the formats of the first ones are known, as many as there is room for, whether all their values are whole numbers of
-- four bytes, and come after their lengths, and the walk over those after them.
pub record Learns (columns : List Column) (charset : Charset) (formats : List CellFormat) (learnt : Learnt) : Type 0 where
  pub there : learnt.known ≤ length formats
  pub few : learnt.known ≤ length columns
  pub first : map (λ f. f.kind) (take learnt.known formats) ≡ map (λ c. c.kind) (take learnt.known columns)
  pub laid : Each (λ f. IsLaidOut charset f.kind f.layout) formats
  pub numbers : learnt.only_numbers ≡ true → Each (λ f. is_int4 f.kind ≡ true) formats
  pub counted : learnt.only_counted ≡ true → Each (λ f. is_counted f.kind ≡ true) formats
  pub all : (learnt.known ≡ length formats) ⊎ (learnt.known ≡ length columns)
  pub numbers_are : learnt.only_numbers ≡ list_all (λ c. is_int4 c.kind) (take learnt.known columns)
  pub counted_are : learnt.only_counted ≡ list_all (λ c. is_counted c.kind) (take learnt.known columns)
  pub rest : columns_left learnt.rest ≡ drop learnt.known columns

-- The row format knows some columns, one at least.
abbrev pub KnowsSome : RowFormat → Type 0
KnowsSome row_format = (columns : List Column) × Knows row_format columns × (0 < row_format.count)

-- the place before a column, with this walk
abbrev pub place : Walk → ℕ → Cursor
place walk column = record { walk = walk; column = column }

-- The place is one in a row of these columns: its walk is over those ahead that the row format doesn't know.
pub record IsCursor (row_format : RowFormat) (columns : List Column) (at : Cursor) : Type 0 where
  pub counted : at.column ≤ length columns
  pub within : at.column ≤ row_format.known → columns_left at.walk ≡ drop row_format.known columns
  pub beyond : row_format.known ≤ at.column → columns_left at.walk ≡ drop at.column columns

-- The bytes begin with the token byte of a ROW.
abbrev pub BeginsRow : List ℕ → Type 0
BeginsRow [] = ⊥
BeginsRow (byte ∷ bytes) = byte ≡ 0xD1

-- The next column is ahead, and this is its kind.
pub record NextColumn (columns : List Column) (at : Cursor) (next_kind : Kind) : Type 0 where
  pub column : Column
  pub rest : List Column
  pub next : drop at.column columns ≡ column ∷ rest
  pub kind : next_kind ≡ column.kind

-- The formats are those of the next columns of a row, none after this number: several that the row format knows, or only one.
pub record AreAtCursor (row_format : RowFormat) (at : Cursor) (end : ℕ) (formats : List CellFormat) : Type 0 where
  pub laid : Each (λ f. IsLaidOut row_format.charset f.kind f.layout) formats
  pub some : 0 < length formats
  pub within : at.column + length formats ≤ end
  pub known : (at.column + length formats ≤ row_format.known) ⊎ (length formats ≡ 1)
  pub next : (columns : List Column) → Knows row_format columns → IsCursor row_format columns at
      → map (λ f. f.kind) formats ≡ map (λ c. c.kind) (take (length formats) (drop at.column columns))
