-- The columns of a description, as they lie in its bytes (MS-TDS, COLMETADATA).
use Rattle.std.specs.Prelude.{ℕ, zero, suc, ◌+◌, ◌*◌, ◌&&◌, nat_le, Bool, true, is_some, List, [], ◌∷◌, length, take, drop, slice_index, unwrap_or}
use Rattle.byteorder.specs.Endian.{little_number}
use Rattle.tds_values.specs.declared.kind.Kind.TheVariants.{Int4}
use Rattle.tds_values.specs.TypeInfo.{rest_length, kind_of}
use Rattle.tds_columns.specs.Description.{Column, SpellsDescription}

-- how many bytes follow the type byte of the column at the front
abbrev pub rest_size : List ℕ → ℕ
rest_size bytes = unwrap_or (rest_length (slice_index bytes 6)) 0

-- how many bytes its name has
abbrev pub name_size : List ℕ → ℕ
name_size bytes = 2 * slice_index bytes (7 + rest_size bytes)

-- how many bytes it has itself
abbrev pub column_size : List ℕ → ℕ
column_size bytes = (8 + rest_size bytes) + name_size bytes

-- the column at the front
abbrev pub column_at : List ℕ → Column
column_at bytes = record {
  kind = unwrap_or (kind_of (take (1 + rest_size bytes) (drop 6 bytes))) Int4;
  name = take (name_size bytes)
      (drop (8 + rest_size bytes) bytes);
}

-- this number of columns, one after the other
abbrev pub columns_in : ℕ → List ℕ → List Column
columns_in zero bytes = []
columns_in (suc n) bytes = column_at bytes ∷ columns_in n (drop (column_size bytes) bytes)

-- all columns of a description, after its Count
abbrev pub columns_of : List ℕ → List Column
columns_of bytes = columns_in (little_number 2 bytes) (drop 2 bytes)

-- whether a whole column is at the front
abbrev pub is_column : List ℕ → Bool
is_column bytes = is_some (kind_of (take (1 + rest_size bytes) (drop 6 bytes))) && nat_le (column_size bytes) (length bytes)

-- whether this number of columns are, one after the other
abbrev pub are_columns : ℕ → List ℕ → Bool
are_columns zero bytes = true
are_columns (suc n) bytes = is_column bytes && are_columns n (drop (column_size bytes) bytes)

-- whether a Count and this number of whole columns are there
abbrev pub is_described : List ℕ → Bool
is_described bytes = nat_le 2 (length bytes) && are_columns (little_number 2 bytes) (drop 2 bytes)

-- The bytes are a whole description, in some room.
abbrev pub IsDescription : List ℕ → Type 0
IsDescription bytes = (room : ℕ) × (columns : List Column) × SpellsDescription room columns bytes
