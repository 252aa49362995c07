-- Rows (MS-TDS, ROW and NBCROW).
use Rattle.std.specs.Prelude.{◌≡◌, ◌==◌, ◌+◌, ◌%◌, ◌/◌, ◌^◌, ℕ, Bool, true, false, List, [], ◌∷◌, ◌++◌, length, map, Option, Some, None, slice_index}
use Rattle.tds_packet.specs.Elements.{Grammar}
use Rattle.tds_packet.specs.declared.fault.Fault.{Fault}
use Rattle.tds_packet.specs.declared.fault.Fault.TheVariants.{MessageEnded}
use Rattle.tds_columns.specs.Description.{Column}
use Rattle.tds_text.specs.Quoting.{joined, line}
use Rattle.tds_values.specs.declared.charset.Charset.{Charset}
use Rattle.tds_cells.specs.Cells.{Cell, Null, field, shape, SpellsCell, CellPart, WholeCell, cell_start, cell_size, cell_fault, cell_add, field_so_far}

-- the tokens of rows
pub data RowToken : Type 0 where
  -- ROW
  PlainRow : RowToken
  -- NBCROW
  NbcRow : RowToken

-- the first byte of a row (MS-TDS, ROW and NBCROW)
abbrev pub token_byte : RowToken → ℕ
token_byte PlainRow = 0xD1
token_byte NbcRow = 0xD2

-- whether the bit k of a bitmap is set, the lowest of the first byte being bit 0
abbrev pub bit : List ℕ → ℕ → Bool
bit bitmap k = (slice_index bitmap (k / 8) / 2 ^ (k % 8)) % 2 == 1

-- the bytes of a bitmap for this many columns; for 65,535 they are 8,192
abbrev pub bitmap_length : ℕ → ℕ
bitmap_length columns = (columns + 7) / 8

-- a column and whether it is NULL by its bit
abbrev pub marked : List Column → (ℕ → Bool) → ℕ → List (Column × Bool)
marked [] nulls k = []
marked (c ∷ cs) nulls k = (c, nulls k) ∷ marked cs nulls (k + 1)

-- The bytes spell the cells whose bit is clear; the others are NULL.
abbrev pub SpellsMarked : Charset → List (Column × Bool) → List Cell → List ℕ → Type 0
SpellsMarked charset [] [] bytes = bytes ≡ []
SpellsMarked charset ((k, true) ∷ ks) (c ∷ cs) bytes = (c ≡ Null) × SpellsMarked charset ks cs bytes
SpellsMarked charset ((k, false) ∷ ks) (c ∷ cs) bytes = (front : List ℕ) × (rest : List ℕ) × (bytes ≡ front ++ rest)
    × SpellsCell k.kind (shape charset k.kind) c front × SpellsMarked charset ks cs rest
SpellsMarked charset [] (c ∷ cs) bytes = ⊥
SpellsMarked charset ((k, null) ∷ ks) [] bytes = ⊥

-- The bytes after the token byte of a row spell its cells: of a ROW all of them, of an NBCROW a bitmap, then those whose bit is clear.
abbrev pub SpellsRow : RowToken → Charset → List Column → List Cell → List ℕ → Type 0
SpellsRow PlainRow charset columns cells bytes = SpellsMarked charset (marked columns (λ k. false) 0) cells bytes
SpellsRow NbcRow charset columns cells bytes = (bitmap : List ℕ) × (rest : List ℕ) × (bytes ≡ bitmap ++ rest)
    × (length bitmap ≡ bitmap_length (length columns)) × SpellsMarked charset (marked columns (bit bitmap) 0) cells rest

-- a row as far as it is read
pub data RowPart : Type 0 where
  -- before the bitmap of an NBCROW
  Bitmap : List Column → RowPart
  -- the whole cells, the one that is read, and the columns to come
  InCell : List Cell → CellPart → List (Column × Bool) → RowPart
  -- all of it
  WholeRow : List Cell → RowPart

-- The cells to come begin: those that are NULL by their bit are whole at once.
abbrev pub next_cell : Charset → List Cell → List (Column × Bool) → RowPart
next_cell charset cells [] = WholeRow cells
next_cell charset cells ((k, true) ∷ ks) = next_cell charset (cells ++ Null ∷ []) ks
next_cell charset cells ((k, false) ∷ ks) = InCell cells (cell_start k.kind (shape charset k.kind)) ks

-- a cell in its row: once whole, the next one begins
abbrev pub with_cell : Charset → List Cell → List (Column × Bool) → CellPart → RowPart
with_cell charset cells ks (WholeCell c) = next_cell charset (cells ++ c ∷ []) ks
with_cell charset cells ks part = InCell cells part ks

-- before the first element of a row: of an NBCROW, its bitmap
abbrev pub row_start : RowToken → Charset → List Column → RowPart
row_start PlainRow charset columns = next_cell charset [] (marked columns (λ k. false) 0)
row_start NbcRow charset columns = Bitmap columns

-- how many bytes the next element of a row has; 0 if nothing follows
abbrev pub row_size : RowPart → ℕ
row_size (Bitmap columns) = bitmap_length (length columns)
row_size (InCell cells part ks) = cell_size part
row_size (WholeRow cells) = 0

-- the first fault of an element of a row
abbrev pub row_fault : RowPart → List ℕ → Option Fault
row_fault (InCell cells part ks) element = cell_fault (length cells) part element
row_fault part element = None

-- the state after an element of a row
abbrev pub row_add : Charset → RowPart → List ℕ → RowPart
row_add charset (Bitmap columns) element = next_cell charset [] (marked columns (bit element) 0)
row_add charset (InCell cells part ks) element = with_cell charset cells ks (cell_add part element)
row_add charset (WholeRow cells) element = WholeRow cells

-- the fault of a message that ends here
abbrev pub row_end : RowPart → Option Fault
row_end (WholeRow cells) = None
row_end part = Some MessageEnded

-- How a row is read, after its token byte.
abbrev pub row : Charset → Grammar RowPart Fault
row charset = record { size = row_size; fault = row_fault; add = row_add charset; end_fault = row_end }

-- the fields so far
abbrev pub with_field : List Cell → Option (List ℕ) → List (List ℕ)
with_field cells None = map field cells
with_field cells (Some f) = map field cells ++ f ∷ []

-- the text so far of a row: its fields joined by commas, and the end of the line if it is whole
abbrev pub row_so_far : RowPart → List ℕ
row_so_far (Bitmap columns) = []
row_so_far (InCell cells part ks) = joined (with_field cells (field_so_far part))
row_so_far (WholeRow cells) = line (map field cells)

-- The bytes don't begin with a token byte of such a row.
abbrev pub BeginNoRow : RowToken → List ℕ → Type 0
BeginNoRow token [] = Unit {0}
BeginNoRow token (byte ∷ bytes) = (byte == token_byte token) ≡ false
