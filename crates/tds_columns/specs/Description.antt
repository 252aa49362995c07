-- Descriptions of columns (MS-TDS, COLMETADATA).
use Rattle.std.specs.Prelude.{◌≡◌, ◌==◌, ◌+◌, ◌*◌, ◌-◌, ◌%◌, ◌/◌, ◌<◌, ◌≤◌, ℕ, List, [], ◌∷◌, ◌++◌, length, Option, Some, None, if◌then◌else◌, nat_lt}
use Rattle.std.specs.Prelude.{slice_index, unwrap_or, is_some}
use Rattle.tds_values.specs.declared.kind.Kind.{Kind}
use Rattle.tds_values.specs.Numbers.{little}
use Rattle.tds_values.specs.TypeInfo.{IsTypeInfo, rest_length, kind_of}
use Rattle.tds_packet.specs.Elements.{Grammar}
use Rattle.tds_packet.specs.declared.fault.RefusedKind.{RefusedKind}
use Rattle.tds_packet.specs.declared.fault.RefusedKind.TheVariants.{Flt4, Flt8, FltN, Text, NText, Image, SsVariant, Udt, Xml}
use Rattle.tds_packet.specs.declared.fault.Fault.{Fault}
use Rattle.tds_packet.specs.declared.fault.Fault.TheVariants.{MessageEnded, NoColumns, RefusedColumn, UnknownType, BadTypeInfo, DescriptionTooLong}

-- a column: the kind of its values, and its name in UTF-16 units as they come
pub record Column : Type 0 where
  pub kind : Kind
  pub name : List ℕ

-- The bytes describe the column: UserType, Flags, type information and name.
pub record SpellsColumn (column : Column) (bytes : List ℕ) : Type 0 where
  pub ignored : List ℕ
  pub info : List ℕ
  pub units : ℕ
  pub spelt : bytes ≡ (ignored ++ info) ++ (units ∷ column.name)
  pub six : length ignored ≡ 6
  pub kind : IsTypeInfo column.kind info
  pub counted : length column.name ≡ 2 * units
  pub byte : units < 256

-- The bytes describe the columns one after the other.
abbrev pub SpellsColumns : List Column → List ℕ → Type 0
SpellsColumns [] bytes = bytes ≡ []
SpellsColumns (c ∷ cs) bytes = (front : List ℕ) × (rest : List ℕ) × (bytes ≡ front ++ rest) × SpellsColumn c front × SpellsColumns cs rest

-- The bytes from Count to the last name describe the columns, within the room.
pub record SpellsDescription (room : ℕ) (columns : List Column) (bytes : List ℕ) : Type 0 where
  pub rest : List ℕ
  pub spelt : bytes ≡ (length columns % 256 ∷ length columns / 256 ∷ []) ++ rest
  pub some : 0 < length columns
  pub most : length columns < 65535
  pub each : SpellsColumns columns rest
  pub within : length bytes ≤ room

-- the kinds that are refused by name, by their type bytes (MS-TDS, Type Info Rule Definition)
unfoldable pub refused_kind : ℕ → Option RefusedKind
refused_kind byte =
    if byte == 0x3B then Some Flt4
    else if byte == 0x3E then Some Flt8
    else if byte == 0x6D then Some FltN
    else if byte == 0x23 then Some Text
    else if byte == 0x63 then Some NText
    else if byte == 0x22 then Some Image
    else if byte == 0x62 then Some SsVariant
    else if byte == 0xF0 then Some Udt
    else if byte == 0xF1 then Some Xml
    else None

-- where a column is read: before its UserType, its further type information, the count of its name, or its name
pub data ColumnPlace : Type 0 where
  ColumnHead : ColumnPlace
  ColumnInfo : ℕ → ColumnPlace
  NameCount : Kind → ColumnPlace
  NameUnits : Kind → ℕ → ColumnPlace

-- a description as far as it is read
pub data DescriptionPart : Type 0 where
  -- nothing of it
  BeforeCount : DescriptionPart
  -- it says that there is no metadata
  NoDescription : DescriptionPart
  -- the bytes so far, the number of columns, those that are whole, and where the next one is read
  InColumn : List ℕ → ℕ → List Column → ColumnPlace → DescriptionPart
  -- all its bytes and columns
  WholeDescription : List ℕ → List Column → DescriptionPart

-- a further column is whole
abbrev pub with_column : List ℕ → ℕ → List Column → Column → DescriptionPart
with_column bytes count columns column =
    if length columns + 1 == count then WholeDescription bytes (columns ++ column ∷ [])
    else InColumn bytes count (columns ++ column ∷ []) ColumnHead

-- its kind is known; type information of no kind is refused before, so its part is never reached
abbrev pub with_kind : List ℕ → ℕ → List Column → Option Kind → DescriptionPart
with_kind bytes count columns (Some kind) = InColumn bytes count columns (NameCount kind)
with_kind bytes count columns None = BeforeCount

-- its Count is read
abbrev pub with_count : List ℕ → ℕ → DescriptionPart
with_count bytes count = if count == 0xFFFF then NoDescription else InColumn bytes count [] ColumnHead

-- its type byte is read, and this number of bytes of type information follows
abbrev pub with_type : List ℕ → ℕ → List Column → ℕ → ℕ → DescriptionPart
with_type bytes count columns byte rest =
    if rest == 0 then with_kind bytes count columns (kind_of (byte ∷ [])) else InColumn bytes count columns (ColumnInfo byte)

-- its name has this number of units
abbrev pub with_units : List ℕ → ℕ → List Column → Kind → ℕ → DescriptionPart
with_units bytes count columns kind units =
    if units == 0 then with_column bytes count columns (record { kind = kind; name = [] }) else InColumn bytes count columns
    (NameUnits kind (2 * units))

-- the state after an element of a column
abbrev pub with_element : List ℕ → ℕ → List Column → ColumnPlace → List ℕ → DescriptionPart
with_element bytes count columns ColumnHead element =
    with_type (bytes ++ element) count columns (slice_index element 6) (unwrap_or (rest_length (slice_index element 6)) 0)
with_element bytes count columns (ColumnInfo byte) element = with_kind (bytes ++ element) count columns (kind_of (byte ∷ element))
with_element bytes count columns (NameCount kind) element = with_units (bytes ++ element) count columns kind (slice_index element 0)
with_element bytes count columns (NameUnits kind n) element = with_column (bytes ++ element) count columns (record { kind = kind; name = element })

-- the state after an element
abbrev pub add_described : DescriptionPart → List ℕ → DescriptionPart
add_described BeforeCount element = with_count element (little element)
add_described (InColumn bytes count columns place) element = with_element bytes count columns place element
add_described d element = d

-- how many bytes the next element of a column has
abbrev pub place_size : ColumnPlace → ℕ
place_size ColumnHead = 7
place_size (ColumnInfo byte) = unwrap_or (rest_length byte) 0
place_size (NameCount kind) = 1
place_size (NameUnits kind n) = n

-- how many bytes the next element has; 0 if nothing follows
abbrev pub described_size : DescriptionPart → ℕ
described_size BeforeCount = 2
described_size (InColumn bytes count columns place) = place_size place
described_size d = 0

-- the fault of a description of `so_far` bytes after which at least `least` must follow, in this room
abbrev pub too_long : ℕ → ℕ → ℕ → Option Fault
too_long room so_far least = if nat_lt room (so_far + least) then Some DescriptionTooLong else None

-- the fault of a type byte that isn't accepted
abbrev pub refused_type : ℕ → ℕ → Option RefusedKind → Option Fault
refused_type index byte (Some kind) = Some (RefusedColumn index kind)
refused_type index byte None = Some (UnknownType index byte)

-- the fault of a type byte, by how many bytes follow it if it is accepted
abbrev pub type_fault : ℕ → ℕ → Option ℕ → Option Fault
type_fault index byte (Some rest) = None
type_fault index byte None = refused_type index byte (refused_kind byte)

-- the first of two, if it is there
abbrev pub first_of_two : {A : Type 0} → Option A → Option A → Option A
first_of_two (Some x) y = Some x
first_of_two None y = y

-- the first fault of a column's head, which ends this number of bytes after the description's beginning, with this type byte; this number of columns
-- follows
abbrev pub head_fault : (room so_far byte index left : ℕ) → Option Fault
head_fault room so_far byte index left =
    first_of_two (type_fault index byte (rest_length byte)) (too_long room so_far ((unwrap_or (rest_length byte) 0 + 1) + 8 * left))

-- the first fault of an element of a column
abbrev pub column_fault : ℕ → List ℕ → ℕ → List Column → ColumnPlace → List ℕ → Option Fault
column_fault room bytes count columns ColumnHead element =
    head_fault room (length bytes + 7) (slice_index element 6) (length columns) (count - (length columns + 1))
column_fault room bytes count columns (ColumnInfo byte) element =
    if is_some (kind_of (byte ∷ element)) then None else Some (BadTypeInfo (length columns))
column_fault room bytes count columns (NameCount kind) element =
    too_long room (length bytes + 1) (2 * slice_index element 0 + 8 * (count - (length columns + 1)))
column_fault room bytes count columns (NameUnits kind n) element = None

-- the first fault of a Count
abbrev pub count_fault : ℕ → ℕ → Option Fault
count_fault room count = if count == 0 then Some NoColumns else if count == 0xFFFF then None else too_long room 2 (8 * count)

-- the first fault of an element
abbrev pub described_fault : ℕ → DescriptionPart → List ℕ → Option Fault
described_fault room BeforeCount element = count_fault room (little element)
described_fault room (InColumn bytes count columns place) element = column_fault room bytes count columns place element
described_fault room d element = None

-- the fault of a message that ends here
abbrev pub described_end : DescriptionPart → Option Fault
described_end NoDescription = None
described_end (WholeDescription bytes columns) = None
described_end d = Some MessageEnded

-- How a description is read, from Count on.
abbrev pub description : ℕ → Grammar DescriptionPart Fault
description room = record { size = described_size; fault = described_fault room; add = add_described; end_fault = described_end }

-- its bytes so far
abbrev pub description_bytes : DescriptionPart → List ℕ
description_bytes (InColumn bytes count columns place) = bytes
description_bytes (WholeDescription bytes columns) = bytes
description_bytes d = []

-- the bytes of the description up to the end of the element that is read, with n as that element's size; 2 without metadata
abbrev pub span : DescriptionPart → ℕ
span NoDescription = 2
span d = length (description_bytes d) + described_size d
