-- Cells whose bytes lie together, and their text.
use Rattle.std.specs.Prelude.{◌≡◌, ◌≤◌, ℕ, Bool, List, ◌++◌, None}
use Rattle.tds_packet.specs.Elements.{IsNext, Spelt}
use Rattle.tds_text.specs.Quoting.{in_line}
use Rattle.tds_values.specs.declared.span.Span.{Span}
use Rattle.tds_cells.specs.Cells.{Cell, CellPart, WholeCell, cell, cell_add, field, field_so_far}

-- The span is that of a cell of this size, which lies within so many bytes, and of its text, which has at most this many.
pub record IsCellSpan (size bytes most : ℕ) (span : Span) : Type 0 where
  pub whole : span.used ≡ size
  pub used : span.used ≤ bytes
  pub made : span.made ≤ most

-- The bytes are a whole cell, and this is its text in its line.
pub record WritesWhole (from : CellPart) (column : ℕ) (last : Bool) (bytes made : List ℕ) : Type 0 where
  pub value : Cell
  pub spelt : Spelt (cell column) from bytes (WholeCell value)
  pub text_is : made ≡ in_line column last (field value)

-- These bytes are a cell, of those whose text comes only with the last element, and this is its text in its line.
pub record WritesCell (from : CellPart) (column : ℕ) (last : Bool) (bytes text : List ℕ) : Type 0 where
  pub value : Cell
  pub front : List ℕ
  pub at : CellPart
  pub element : List ℕ
  pub joined : front ++ element ≡ bytes
  pub spelt : Spelt (cell column) from front at
  pub next : IsNext (cell column) at element
  pub whole : cell_add at element ≡ WholeCell value
  pub quiet : field_so_far at ≡ None
  pub text_is : text ≡ in_line column last (field value)
