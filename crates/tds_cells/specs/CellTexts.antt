-- What reading a cell and putting it into its line does.
use Rattle.std.specs.Prelude.{◌≡◌, ◌==◌, ◌⊎◌, ◌-◌, ◌<◌, ◌≤◌, ℕ, Bool, true, false, List, [], ◌∷◌, length, take, is_ok, Option}
use Rattle.std.specs.Prelude.{Some, None, Err, MatchOption, if◌then◌else◌}
use Rattle.tds_values.specs.declared.kind.Kind.{Kind}
use Rattle.tds_values.specs.declared.kind.Kind.TheVariants.{Int4, IntN}
use Rattle.tds_values.specs.Front.{scalar_size, value_bytes, value_length}
use Rattle.tds_values.specs.Kind.{is_scalar}
use Rattle.tds_values.specs.Scalar.{read_of}
use Rattle.tds_columns.specs.Description.{Column}
use Rattle.tds_text.specs.Quoting.{after_comma, in_line}
use Rattle.tds_values.specs.declared.charset.Charset.{Charset}
use Rattle.tds_values.specs.declared.span.Span.{Span}
use Rattle.tds_cells.specs.LongFields.{IsLongLeft, long_size, reach_of}
use Rattle.tds_cells.specs.WholeCells.{IsCellSpan, WritesCell, WritesWhole}
use Rattle.tds_cells.specs.Cells.{CellPart, LongShape, WholeCell, cell, cell_start, field, field_so_far, shape}
use Rattle.tds_cells.specs.declared.whole.Left.{Left}
use Rattle.tds_cells.specs.declared.whole.Left.TheVariants.{Cut, Refused, Long}
use Rattle.tds_text.specs.Fields.{conversion_of}

-- a field that is open, with the comma before it; nothing if it isn't
abbrev pub opened : ℕ → Option (List ℕ) → List ℕ
opened column None = []
opened column (Some text) = after_comma column text

-- whether no column follows
abbrev pub is_last_column : List Column → Bool
is_last_column [] = true
is_last_column (c ∷ cs) = false

-- the text so far of a cell in its line: nothing before its length is accepted, then a comma unless it is the first, and its field so far; and the
-- end of the line after it if it is the last
abbrev pub cell_so_far : ℕ → Bool → CellPart → List ℕ
cell_so_far column last (WholeCell cell) = in_line column last (field cell)
cell_so_far column last part = opened column (field_so_far part)

-- whether the values of a kind are whole numbers of four bytes
abbrev pub is_int4 : Kind → Bool
is_int4 Int4 = true
is_int4 (IntN n) = n == 4
is_int4 kind = false

-- whether whole numbers of a kind come after their length, or are NULL
abbrev pub is_counted : Kind → Bool
is_counted (IntN n) = true
is_counted kind = false

-- how many bytes the cell at the front of these bytes has
abbrev pub whole_size : Kind → List ℕ → ℕ
whole_size kind bytes = if is_scalar kind then scalar_size kind bytes else long_size (reach_of kind) bytes

-- The scalar cell at the front of these bytes is left for another way: it isn't whole, or its value is refused.
abbrev pub IsScalarLeft : Kind → List ℕ → Type 0
IsScalarLeft kind bytes = (length bytes < scalar_size kind bytes)
    ⊎ ((0 < value_length kind bytes) × (is_ok (read_of kind (value_bytes kind bytes)) ≡ false))

-- The cell at the front of these bytes is left, with this much room.
abbrev pub IsLeft : Charset → Kind → List ℕ → ℕ → Type 0
IsLeft charset kind bytes room =
    ((is_scalar kind ≡ true) × IsScalarLeft kind bytes) ⊎ ((is_scalar kind ≡ false) × IsLongLeft (shape charset kind) bytes room)

-- The cell at the front of these bytes is left for this reason.
abbrev pub IsLeftFor : Charset → Kind → List ℕ → Left → Type 0
IsLeftFor charset kind bytes Cut = (is_scalar kind ≡ true) × (length bytes < scalar_size kind bytes)
IsLeftFor charset kind bytes (Refused fault) = (is_scalar kind ≡ true) × (scalar_size kind bytes ≤ length bytes) × (0 < value_length kind bytes)
    × (read_of kind (value_bytes kind bytes) ≡ Err fault)
IsLeftFor charset kind bytes (Long content reach) = shape charset kind ≡ LongShape (conversion_of content) reach

-- The bytes are a whole cell of a kind, and this is its text in its line; that of a scalar, in any set, comes only with the last element.
pub record WritesKind (charset : Charset) (kind : Kind) (column : ℕ) (last : Bool) (bytes text : List ℕ) : Type 0 where
  pub whole : WritesWhole (cell_start kind (shape charset kind)) column last bytes text
  pub at_once : is_scalar kind ≡ true → (any : Charset) → WritesCell (cell_start kind (shape any kind)) column last bytes text

-- The bytes are a whole cell of a kind, and this is its field, wherever it is in a line.
abbrev pub WritesField : Charset → Kind → List ℕ → List ℕ → Type 0
WritesField charset kind bytes field = (column : ℕ) (last : Bool) → WritesKind charset kind column last bytes (in_line column last field)

-- The field of the cell at the front of these bytes was written to the front of others, with room for a comma before it and the end of a line after it;
-- or it is left, with this much room.
abbrev pub CellWritten : Charset → Kind → List ℕ → ℕ → List ℕ → Option Span → Type 0
CellWritten charset kind bytes room text result = MatchOption result (IsLeft charset kind bytes room)
    (λ written. IsCellSpan (whole_size kind bytes) (length bytes) (room - 3) written
    × WritesField charset kind (take written.used bytes) (take written.made text))
