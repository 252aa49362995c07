-- Cells: the values of a row (MS-TDS, Data Stream Types).
use Rattle.std.specs.Prelude.{◌≡◌, ◌==◌, ◌&&◌, ◌||◌, ◌+◌, ◌-◌, ◌%◌, ◌/◌, ◌^◌, ◌<◌, ◌⊎◌, ℕ, Bool, true, false, List, [], ◌∷◌, ◌++◌, length, replicate}
use Rattle.std.specs.Prelude.{Option, Some, None, if◌then◌else◌, nat_lt, nat_le, slice_index, Result, Ok, Err, is_ok}
use Rattle.std.specs.List.{concat}
use Rattle.std.specs.Option.{option_map_or}
use Rattle.tds_values.specs.declared.kind.Kind.{Kind}
use Rattle.tds_values.specs.declared.kind.Kind.TheVariants.{Binary, Narrow, Wide}
use Rattle.tds_values.specs.declared.kind.Reach.{Reach}
use Rattle.tds_values.specs.declared.kind.Reach.TheVariants.{Short, Chunked}
use Rattle.tds_values.specs.declared.scalar.ScalarValue.{ScalarValue}
use Rattle.tds_values.specs.declared.scalar.ValueFault.{ValueFault}
use Rattle.tds_values.specs.Numbers.{little}
use Rattle.tds_values.specs.Kind.{fixed_length, is_length_allowed}
use Rattle.tds_values.specs.Scalar.{read_of}
use Rattle.tds_values.specs.ScalarText.{text_of}
use Rattle.tds_text.specs.Conversion.{Conversion, HexDigits, Utf16Text, Windows1252Text, Utf8Text, unit, is_fit, is_begun, long_field, open_field}
use Rattle.tds_text.specs.Quoting.{null_field}
use Rattle.tds_packet.specs.Elements.{Grammar}
use Rattle.tds_packet.specs.declared.fault.Fault.{Fault}
use Rattle.tds_packet.specs.declared.fault.Fault.TheVariants.{MessageEnded, BadValueLength, BadValue, OddText, PlpLength, BadText}
use Rattle.tds_values.specs.declared.charset.Charset.{Charset}
use Rattle.tds_values.specs.declared.charset.Charset.TheVariants as sets

-- a value of a column
pub data Cell : Type 0 where
  Null : Cell
  ScalarCell : ScalarValue → Cell
  DataCell : Conversion → List ℕ → Cell

-- its text
abbrev pub field : Cell → List ℕ
field Null = null_field
field (ScalarCell v) = text_of v
field (DataCell c bytes) = long_field c bytes

-- how single-byte text is read
abbrev pub narrow : Charset → Conversion
narrow sets.Windows1252 = Windows1252Text
narrow sets.Utf8 = Utf8Text

-- the set in which the value of a RETURNVALUE is read: it is passed over, so its single-byte text may be any bytes, and this set has a character for
-- each
abbrev pub return_charset : Charset
return_charset = sets.Windows1252

-- what the values of a kind are, as far as their spelling goes
pub data Shape : Type 0 where
  FixedShape : ℕ → Shape
  CountedShape : Shape
  LongShape : Conversion → Reach → Shape

-- the shape of a kind: how its values are spelt; those of a scalar kind have a length of their own, or one before them
abbrev pub shape : Charset → Kind → Shape
shape charset (Binary r) = LongShape HexDigits r
shape charset (Narrow r) = LongShape (narrow charset) r
shape charset (Wide r) = LongShape Utf16Text r
shape charset kind = option_map_or FixedShape (fixed_length kind) CountedShape

-- The bytes spell a chunk: its length, which isn't 0, and its data.
pub record SpellsChunk (content bytes : List ℕ) : Type 0 where
  pub header : List ℕ
  pub spelt : bytes ≡ header ++ content
  pub four : length header ≡ 4
  pub counted : little header ≡ length content
  pub some : 0 < length content

-- The bytes spell the data in chunks, and the terminator.
abbrev pub SpellsChunks : List (List ℕ) → List ℕ → Type 0
SpellsChunks [] bytes = bytes ≡ 0 ∷ 0 ∷ 0 ∷ 0 ∷ []
SpellsChunks (d ∷ ds) bytes = (front : List ℕ) × (rest : List ℕ) × (bytes ≡ front ++ rest) × SpellsChunk d front × SpellsChunks ds rest

-- The bytes spell the data of a chunked value (MS-TDS, Partially Length-prefixed Bytes): a total, 2 ^ 64 - 2 for an unknown one or its length, its
-- chunks and the terminator.
pub record SpellsChunked (content bytes : List ℕ) : Type 0 where
  pub total : List ℕ
  pub rest : List ℕ
  pub chunks : List (List ℕ)
  pub spelt : bytes ≡ total ++ rest
  pub eight : length total ≡ 8
  pub known : (little total ≡ 2 ^ 64 - 2) ⊎ ((little total ≡ length content) × (length content < 2 ^ 64 - 2))
  pub each : SpellsChunks chunks rest
  pub all : concat chunks ≡ content

-- The bytes spell the cell, by cases on the shape of the kind. A short value is its two-byte length, not 0xFFFF, and its data.
abbrev pub SpellsCell : Kind → Shape → Cell → List ℕ → Type 0
SpellsCell kind (FixedShape n) (ScalarCell v) bytes = (length bytes ≡ n) × (read_of kind bytes ≡ Ok v)
SpellsCell kind (FixedShape n) cell bytes = ⊥
SpellsCell kind CountedShape Null bytes = bytes ≡ 0 ∷ []
SpellsCell kind CountedShape (ScalarCell v) bytes = (value : List ℕ) × (bytes ≡ length value ∷ value) × (0 < length value)
    × (is_length_allowed kind (length value) ≡ true) × (read_of kind value ≡ Ok v)
SpellsCell kind CountedShape (DataCell c d) bytes = ⊥
SpellsCell kind (LongShape c Short) Null bytes = bytes ≡ 255 ∷ 255 ∷ []
SpellsCell kind (LongShape c Short) (DataCell c' d) bytes = (c' ≡ c) × (is_fit c d ≡ true) × (length d < 65535)
    × (bytes ≡ (length d % 256 ∷ length d / 256 ∷ []) ++ d)
SpellsCell kind (LongShape c Chunked) Null bytes = bytes ≡ replicate 8 255
SpellsCell kind (LongShape c Chunked) (DataCell c' d) bytes = (c' ≡ c) × (is_fit c d ≡ true) × SpellsChunked d bytes
SpellsCell kind (LongShape c r) (ScalarCell v) bytes = ⊥

-- a cell as far as it is read
pub data CellPart : Type 0 where
  -- before the bytes of a value of a scalar kind
  ScalarBytes : Kind → ℕ → CellPart
  -- before the one-byte length
  ScalarLength : Kind → CellPart
  -- before the length of a short value
  ShortLength : Conversion → CellPart
  -- within a short value: how many bytes follow the next one, and its data
  ShortData : Conversion → ℕ → List ℕ → CellPart
  -- before the total of a chunked value
  Total : Conversion → CellPart
  -- before the length of a chunk: the total if it is known, and the data
  ChunkLength : Conversion → Option ℕ → List ℕ → CellPart
  -- within a chunk: the total, how many bytes follow the next one, and the data
  ChunkData : Conversion → Option ℕ → ℕ → List ℕ → CellPart
  -- all of it
  WholeCell : Cell → CellPart

-- before the first element of a long value
abbrev pub long_start : Conversion → Reach → CellPart
long_start c Short = ShortLength c
long_start c Chunked = Total c

-- before the first element
abbrev pub cell_start : Kind → Shape → CellPart
cell_start kind (FixedShape n) = ScalarBytes kind n
cell_start kind CountedShape = ScalarLength kind
cell_start kind (LongShape c reach) = long_start c reach

-- how many bytes the next element of a cell has; 0 if nothing follows
abbrev pub cell_size : CellPart → ℕ
cell_size (ScalarBytes kind n) = n
cell_size (ScalarLength kind) = 1
cell_size (ShortLength c) = 2
cell_size (ShortData c left content) = 1
cell_size (Total c) = 8
cell_size (ChunkLength c total content) = 4
cell_size (ChunkData c total left content) = 1
cell_size (WholeCell cell) = 0

-- a test that failed is this fault
abbrev pub unless : Bool → Fault → Option Fault
unless true fault = None
unless false fault = Some fault

-- whether the sum may still become the total
abbrev pub within_total : Option ℕ → ℕ → Bool
within_total None sum = true
within_total (Some total) sum = nat_le sum total

-- whether the sum is the total
abbrev pub is_total : Option ℕ → ℕ → Bool
is_total None sum = true
is_total (Some total) sum = sum == total

-- the terminator is judged
abbrev pub end_of_chunks : ℕ → Conversion → Option ℕ → List ℕ → Option Fault
end_of_chunks column c total content =
    if is_total total (length content)
    then (if length content % unit c == 0 then unless (is_fit c content) (BadText column) else Some (OddText column))
    else Some (PlpLength column)

-- the first fault of an element of a cell
abbrev pub cell_fault : ℕ → CellPart → List ℕ → Option Fault
cell_fault column (ScalarBytes kind n) element = unless (is_ok (read_of kind element)) (BadValue column)
cell_fault column (ScalarLength kind) element =
    unless ((slice_index element 0 == 0) || is_length_allowed kind (slice_index element 0)) (BadValueLength column)
cell_fault column (ShortLength c) element = unless ((little element == 0xFFFF) || (little element % unit c == 0)) (OddText column)
cell_fault column (ShortData c left content) element =
    unless (is_begun c (content ++ element) && (nat_lt 0 left || is_fit c (content ++ element))) (BadText column)
cell_fault column (Total c) element = unless (nat_le (2 ^ 64 - 2) (little element) || (little element % unit c == 0)) (OddText column)
cell_fault column (ChunkLength c total content) element = if little element == 0 then end_of_chunks column c total content else
    unless (within_total total (length content + little element)) (PlpLength column)
cell_fault column (ChunkData c total left content) element = unless (is_begun c (content ++ element)) (BadText column)
cell_fault column (WholeCell cell) element = None

-- a value was read; bytes that have none are refused before, so their part is never reached
abbrev pub value_part : Result ScalarValue ValueFault → CellPart
value_part (Ok v) = WholeCell (ScalarCell v)
value_part (Err fault) = WholeCell Null

-- a total, unless it is 2 ^ 64 - 2, which stands for an unknown one
abbrev pub known_total : ℕ → Option ℕ
known_total n = if n == (2 ^ 64 - 2) then None else Some n

-- the state after an element of a cell; the total 2 ^ 64 - 1 stands for NULL
abbrev pub cell_add : CellPart → List ℕ → CellPart
cell_add (ScalarBytes kind n) element = value_part (read_of kind element)
cell_add (ScalarLength kind) element = if slice_index element 0 == 0 then WholeCell Null else ScalarBytes kind (slice_index element 0)
cell_add (ShortLength c) element = if little element == 0xFFFF then WholeCell Null else if little element == 0 then WholeCell (DataCell c []) else
    ShortData c (little element - 1) []
cell_add (ShortData c left content) element =
    if left == 0 then WholeCell (DataCell c (content ++ element)) else ShortData c (left - 1) (content ++ element)
cell_add (Total c) element = if little element == (2 ^ 64 - 1) then WholeCell Null else ChunkLength c (known_total (little element)) []
cell_add (ChunkLength c total content) element =
    if little element == 0 then WholeCell (DataCell c content) else ChunkData c total (little element - 1) content
cell_add (ChunkData c total left content) element =
    if left == 0 then ChunkLength c total (content ++ element) else ChunkData c total (left - 1) (content ++ element)
cell_add (WholeCell cell) element = WholeCell cell

-- the fault of a message that ends here
abbrev pub cell_end : CellPart → Option Fault
cell_end (WholeCell cell) = None
cell_end part = Some MessageEnded

-- How a cell of this column is read.
abbrev pub cell : ℕ → Grammar CellPart Fault
cell column = record { size = cell_size; fault = cell_fault column; add = cell_add; end_fault = cell_end }

-- the cell's text so far; none if neither it nor its length is whole
abbrev pub field_so_far : CellPart → Option (List ℕ)
field_so_far (WholeCell cell) = Some (field cell)
field_so_far (ShortData c left content) = Some (open_field c content)
field_so_far (ChunkLength c total content) = Some (open_field c content)
field_so_far (ChunkData c total left content) = Some (open_field c content)
field_so_far part = None
