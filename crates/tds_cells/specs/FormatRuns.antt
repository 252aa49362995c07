-- What a run over cells by their formats does, whose columns follow one another in a row.
use Rattle.std.specs.Prelude.{◌≡◌, ◌==◌, ◌⊎◌, ◌+◌, ◌-◌, ◌<◌, ◌≤◌, ◌*◌, ◌∷◌, ◌++◌, ℕ, zero, suc, Bool, false, true, List, [], length, map, take, drop}
use Rattle.std.specs.Prelude.{get_or}
use Rattle.tds_columns.specs.Description.{Column}
use Rattle.tds_text.specs.Quoting.{after_comma}
use Rattle.tds_values.specs.declared.charset.Charset.{Charset}
use Rattle.tds_cells.specs.declared.layout.CellFormat.{CellFormat}
use Rattle.tds_cells.specs.declared.run.formats.FormatsRun.{FormatsRun}
use Rattle.tds_values.specs.declared.span.Span.{Span}
use Rattle.tds_cells.specs.CellTexts.{IsLeft, IsScalarLeft, WritesField, is_counted, is_int4}
use Rattle.tds_cells.specs.Formats.{Each}
use Rattle.tds_cells.specs.MarkedRuns.{WritesMarked}
use Rattle.tds_cells.specs.RowFormats.{BeginsRow}

-- A run wrote no more cells than there are, from no more bytes, into no more room; and a cell has some bytes.
pub record IsWithin (run : FormatsRun) (most bytes room : ℕ) : Type 0 where
  pub cells : run.cells ≤ most
  pub used : run.used ≤ bytes
  pub made : run.made ≤ room
  pub some : 0 < run.cells → 0 < run.used
  pub none : run.cells ≡ 0 → run.used ≡ 0

-- The first cell is left, with this much room; or there isn't room for every scalar.
abbrev pub FirstLeft : Charset → List CellFormat → List ℕ → ℕ → Type 0
FirstLeft charset formats bytes room = (format : CellFormat) (rest : List CellFormat) → formats ≡ format ∷ rest
    → (room < 66) ⊎ IsLeft charset format.kind bytes room

-- The bytes are the cells of this number of formats, and these are their fields after one another, each after its comma.
abbrev pub WritesFormats : Charset → List CellFormat → ℕ → ℕ → List ℕ → List ℕ → Type 0
WritesFormats charset formats column zero bytes text = (bytes ≡ []) × (text ≡ [])
WritesFormats charset formats column (suc n) bytes text = (front : List ℕ) × (rest : List ℕ) × (before : List ℕ) × (field : List ℕ)
    × (bytes ≡ front ++ rest) × (text ≡ before ++ after_comma (column + n) field) × WritesFormats charset formats column n front before
    × ((format : CellFormat) → WritesField charset (get_or formats n format).kind rest field)

-- A run wrote the fields of the first cells, whose bytes it used, and the comma after them, with room for the end of the line.
pub record WritesFields (charset : Charset) (formats : List CellFormat) (column : ℕ) (bytes text : List ℕ) (run : FormatsRun) : Type 0 where
  pub within : IsWithin run (length formats) (length bytes) (length text)
  pub room : 0 < run.cells → (0 < run.made) × (run.made < length text)
  pub fields : List ℕ
  pub writes : WritesFormats charset formats column run.cells (take run.used bytes) fields
  pub text_is : take run.made text ≡ fields ++ after_comma (column + run.cells) []

-- So many cells of whole numbers of four bytes are there with all their bytes and one more, and with room for their fields and the end of the line.
pub record NumbersWithin (cells bytes room : ℕ) : Type 0 where
  pub whole : 5 * cells < bytes
  pub fits : 12 * cells + 25 < room

-- The values of these formats' kinds are whole numbers of four bytes, all after their lengths if they are counted, which are there with their bytes and
-- room.
pub record AreNumbers (counted : Bool) (formats : List CellFormat) (bytes room : ℕ) : Type 0 where
  pub numbers : Each (λ f. is_int4 f.kind ≡ true) formats
  pub lengths : counted ≡ true → Each (λ f. is_counted f.kind ≡ true) formats
  pub within : NumbersWithin (length formats) bytes room

-- A run over cells by their formats did so much: it left the first cell if it wrote none, and wrote the text of the bytes that it used, which are the
-- next cells, if the formats are those of the next columns and end the row where these do.
pub record RunsFormats (charset : Charset) (formats : List CellFormat) (column : ℕ) (last : Bool) (bytes : List ℕ) (room : ℕ) (text : List ℕ)
    (run : FormatsRun) : Type 0 where
  pub within : IsWithin run (length formats) (length bytes) room
  pub ends : run.cells ≡ 0 → FirstLeft charset formats bytes room
  pub cells : (columns : List Column) → map (λ f. f.kind) formats ≡ map (λ c. c.kind) (take (length formats) (drop column columns))
      → last ≡ (length formats == length (drop column columns))
      → WritesMarked charset columns (λ k. false) column run.cells (take run.used bytes) (take run.made text)

-- what a run did that began in these bytes and this text
abbrev pub run_since : Span → FormatsRun → FormatsRun
run_since from run = record { cells = run.cells; used = run.used - from.used; made = run.made - from.made }

-- Some first cells of a row are at the front of these bytes, and after them one is refused, which is of a scalar kind.
pub record RefusesRow (formats : List CellFormat) (bytes : List ℕ) : Type 0 where
  pub run : FormatsRun
  pub few : run.cells < length formats
  pub fields : (charset : Charset) → (text : List ℕ) × WritesFormats charset formats 0 run.cells (take run.used bytes) text
  pub next : (format : CellFormat) → IsScalarLeft (get_or formats run.cells format).kind (drop run.used bytes)

-- A run over rows of numbers ended before this column: before a row for which bytes or room are too few or of which a cell is refused, or after a row
-- that no other follows.
abbrev pub NumbersEnd : List CellFormat → ℕ → List ℕ → ℕ → Type 0
NumbersEnd formats column bytes room =
    ((column ≡ 0) × ((NumbersWithin (length formats) (length bytes) room → ⊥) ⊎ RefusesRow formats bytes))
    ⊎ ((column ≡ length formats) × (BeginsRow bytes → ⊥))
