-- The value that a procedure returns (MS-TDS, RETURNVALUE).
use Rattle.std.specs.Prelude.{◌≡◌, ◌==◌, ◌*◌, ◌<◌, ℕ, List, [], ◌∷◌, ◌++◌, length, Option, Some, None, if◌then◌else◌, slice_index, unwrap_or}
use Rattle.tds_values.specs.declared.kind.Kind.{Kind}
use Rattle.tds_values.specs.TypeInfo.{IsTypeInfo, rest_length, kind_of}
use Rattle.tds_packet.specs.Elements.{Grammar}
use Rattle.tds_packet.specs.declared.fault.Fault.{Fault}
use Rattle.tds_packet.specs.declared.fault.Fault.TheVariants.{MessageEnded}
use Rattle.tds_columns.specs.ReturnedType.{TypeHead, TypeRest, return_column, type_part_fault, type_size}
use Rattle.tds_cells.specs.Cells.{Cell, shape, SpellsCell, CellPart, WholeCell, cell_start, cell_size, cell_fault, cell_add, return_charset}

-- what a RETURNVALUE says: a name in UTF-16 units, a kind and a value of it
pub record ReturnValue : Type 0 where
  pub name : List ℕ
  pub kind : Kind
  pub value : Cell

-- The bytes are the ordinal and the name of a return value.
pub record SpellsReturnName (name bytes : List ℕ) : Type 0 where
  pub ordinal : List ℕ
  pub units : ℕ
  pub spelt : bytes ≡ ordinal ++ units ∷ name
  pub two : length ordinal ≡ 2
  pub counted : length name ≡ 2 * units
  pub byte : units < 256

-- The bytes spell the return value: an ordinal and a name, then status, UserType, Flags, type information and a value of the kind.
pub record SpellsReturnValue (r : ReturnValue) (bytes : List ℕ) : Type 0 where
  pub front : List ℕ
  pub ignored : List ℕ
  pub info : List ℕ
  pub value : List ℕ
  pub spelt : bytes ≡ front ++ ((ignored ++ info) ++ value)
  pub named : SpellsReturnName r.name front
  pub seven : length ignored ≡ 7
  pub type : IsTypeInfo r.kind info
  pub cell : SpellsCell r.kind (shape return_charset r.kind) r.value value

-- a return value as far as it is read
pub data ReturnPart : Type 0 where
  -- before the ordinal, the count of the name's units, and the units
  ReturnOrdinal : ReturnPart
  ReturnNameCount : ReturnPart
  ReturnName : ℕ → ReturnPart
  -- before the eight bytes that end with the type byte, after this name
  ReturnHead : List ℕ → ReturnPart
  -- before the bytes that follow this type byte
  ReturnInfo : List ℕ → ℕ → ReturnPart
  -- in the value of this kind
  InReturnCell : List ℕ → Kind → CellPart → ReturnPart
  -- all of it
  WholeReturn : ReturnValue → ReturnPart

-- a return value in whose value this is read: once that is whole, all of it is
abbrev pub with_value : List ℕ → Kind → CellPart → ReturnPart
with_value name kind (WholeCell c) = WholeReturn (record { name = name; kind = kind; value = c })
with_value name kind part = InReturnCell name kind part

-- a return value whose kind is known; type information of no kind is refused before, so its part is never reached
abbrev pub with_return_kind : List ℕ → Option Kind → ReturnPart
with_return_kind name (Some kind) = with_value name kind (cell_start kind (shape return_charset kind))
with_return_kind name None = ReturnOrdinal

-- a return value after its type byte, with this many bytes of type information to follow
abbrev pub with_return_type : List ℕ → ℕ → ℕ → ReturnPart
with_return_type name byte rest = if rest == 0 then with_return_kind name (kind_of (byte ∷ [])) else ReturnInfo name byte

-- a return value whose name has this many units
abbrev pub with_return_units : ℕ → ReturnPart
with_return_units units = if units == 0 then ReturnHead [] else ReturnName (2 * units)

-- how many bytes the next element of a return value has
abbrev pub return_size : ReturnPart → ℕ
return_size ReturnOrdinal = 2
return_size ReturnNameCount = 1
return_size (ReturnName n) = n
return_size (ReturnHead name) = type_size TypeHead
return_size (ReturnInfo name byte) = type_size (TypeRest byte)
return_size (InReturnCell name kind part) = cell_size part
return_size (WholeReturn r) = 0

-- the fault of the next element of a return value, if it has one
abbrev pub return_fault : ReturnPart → List ℕ → Option Fault
return_fault (ReturnHead name) element = type_part_fault TypeHead element
return_fault (ReturnInfo name byte) element = type_part_fault (TypeRest byte) element
return_fault (InReturnCell name kind part) element = cell_fault return_column part element
return_fault part element = None

-- a return value with its next element
abbrev pub return_add : ReturnPart → List ℕ → ReturnPart
return_add ReturnOrdinal element = ReturnNameCount
return_add ReturnNameCount element = with_return_units (slice_index element 0)
return_add (ReturnName n) element = ReturnHead element
return_add (ReturnHead name) element = with_return_type name (slice_index element 7) (unwrap_or (rest_length (slice_index element 7)) 0)
return_add (ReturnInfo name byte) element = with_return_kind name (kind_of (byte ∷ element))
return_add (InReturnCell name kind part) element = with_value name kind (cell_add part element)
return_add (WholeReturn r) element = WholeReturn r

-- the fault of a message that ends in a return value
abbrev pub return_end : ReturnPart → Option Fault
return_end (WholeReturn r) = None
return_end part = Some MessageEnded

-- How a return value is read, after its token byte.
abbrev pub return_value : Grammar ReturnPart Fault
return_value = record { size = return_size; fault = return_fault; add = return_add; end_fault = return_end }
