-- The fields of long values whose bytes lie together (MS-TDS, Data Stream Types).
use Rattle.std.specs.Prelude.{◌≡◌, ◌≢◌, ◌==◌, ◌⊎◌, ◌+◌, ◌-◌, ◌^◌, ◌<◌, ◌≤◌, ℕ, zero, suc, Bool, false, List, length, take, drop, if◌then◌else◌}
use Rattle.std.specs.Prelude.{Option, MatchOption}
use Rattle.byteorder.specs.Endian.{little_number}
use Rattle.tds_values.specs.declared.kind.Kind.{Kind}
use Rattle.tds_values.specs.declared.kind.Kind.TheVariants.{Binary, Narrow, Wide}
use Rattle.tds_values.specs.declared.kind.Reach.{Reach}
use Rattle.tds_values.specs.declared.kind.Reach.TheVariants.{Short, Chunked}
use Rattle.tds_text.specs.Conversion.{Conversion, is_fit}
use Rattle.tds_text.specs.Fields.{field_room}
use Rattle.tds_text.specs.Quoting.{in_line}
use Rattle.tds_values.specs.declared.span.Span.{Span}
use Rattle.tds_cells.specs.Cells.{LongShape, Shape, long_start}
use Rattle.tds_cells.specs.WholeCells.{IsCellSpan, WritesWhole}

-- how far the values of a long kind reach
abbrev pub reach_of : Kind → Reach
reach_of (Binary reach) = reach
reach_of (Narrow reach) = reach
reach_of (Wide reach) = reach
reach_of kind = Short

-- how many bytes of data the short value has at the front of these bytes, after a length of two bytes; NULL has none
abbrev pub data_length : List ℕ → ℕ
data_length bytes = if little_number 2 bytes == 0xFFFF then 0 else little_number 2 bytes

-- how many bytes a cell has whose data are so many in one chunk, or none: the total, the chunk's length, the data and the terminator, or the total and
-- the terminator
abbrev pub chunk_end : ℕ → ℕ
chunk_end n = if n == 0 then 12 else 16 + n

-- A value of so many bytes is whole at the front of these, in one chunk, or in none if it is empty. Its total is this number or 2 ^ 64 - 2, which stands
-- for an unknown one, and the terminator follows.
pub record HasOneChunk (bytes : List ℕ) (n : ℕ) : Type 0 where
  pub total : (little_number 8 bytes ≡ 2 ^ 64 - 2) ⊎ (little_number 8 bytes ≡ n)
  pub counted : n ≡ little_number 4 (drop 8 bytes)
  pub few : n ≤ 65535
  pub within : chunk_end n ≤ length bytes
  pub ended : 0 < n → little_number 4 (drop (12 + n) bytes) ≡ 0

-- how many bytes the chunks at the front of these bytes have with the terminator, if they are no more than this number
abbrev pub chunks_size : ℕ → List ℕ → ℕ
chunks_size zero bytes = 0
chunks_size (suc most) bytes =
    if little_number 4 bytes == 0 then 4 else 4 + little_number 4 bytes + chunks_size most (drop (4 + little_number 4 bytes) bytes)

-- how many bytes the cell of a long value at the front of these bytes has: a short one its length of two bytes and its data; one in chunks its total of
-- eight bytes, and unless that is NULL's the chunks and the terminator
abbrev pub long_size : Reach → List ℕ → ℕ
long_size Short bytes = 2 + data_length bytes
long_size Chunked bytes = if little_number 8 bytes == (2 ^ 64 - 1) then 8 else 8 + chunks_size (length bytes) (drop 8 bytes)

-- The value of this shape at the front of these bytes is left for another way, with this much room, if it is a long one: a short one isn't whole, one in
-- chunks isn't NULL with four bytes after it nor whole in one chunk at most; or it may want more room than there is, or its data isn't whole text.
abbrev pub IsLongLeft : Shape → List ℕ → ℕ → Type 0
IsLongLeft (LongShape c Short) bytes room = (length bytes < 2 + data_length bytes)
    ⊎ ((room < 1 + field_room c (data_length bytes)) ⊎ (is_fit c (take (data_length bytes) (drop 2 bytes)) ≡ false))
IsLongLeft (LongShape c Chunked) bytes room = (12 ≤ length bytes → little_number 8 bytes ≢ 2 ^ 64 - 1)
    × ((n : ℕ) → HasOneChunk bytes n → (room < 1 + field_room c n) ⊎ (is_fit c (take n (drop 12 bytes)) ≡ false))
IsLongLeft other bytes room = Unit {0}

-- The field of a long value of this conversion, whose cell is at the front of these bytes, was written to the front of others, with room for a comma
-- before it and the end of a line after it; or it is left.
abbrev pub LongWritten : Conversion → Reach → List ℕ → ℕ → List ℕ → Option Span → Type 0
LongWritten c reach bytes room text result = MatchOption result (IsLongLeft (LongShape c reach) bytes room)
    (λ written. IsCellSpan (long_size reach bytes) (length bytes) (room - 3) written × ((column : ℕ) (last : Bool) →
    WritesWhole (long_start c reach) column last (take written.used bytes) (in_line column last (take written.made text))))
