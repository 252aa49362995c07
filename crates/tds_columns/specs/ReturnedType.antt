-- The type of the value that a procedure returns (MS-TDS, RETURNVALUE): eight bytes that end with the type byte, and what follows it.
use Rattle.std.specs.Prelude.{◌≡◌, ◌==◌, ℕ, ◌+◌, ◌≤◌, List, [], ◌∷◌, ◌++◌, length, max, Option, Some, None, Result, OnErr, if◌then◌else◌, slice_index}
use Rattle.std.specs.Prelude.{unwrap_or, is_some}
use Rattle.tds_values.specs.declared.kind.Kind.{Kind}
use Rattle.tds_values.specs.TypeInfo.{IsTypeInfo, rest_length, kind_of}
use Rattle.tds_meter.specs.Space.{Space}
use Rattle.tds_packet.specs.declared.fault.Fault.{Fault}
use Rattle.tds_packet.specs.declared.fault.Fault.TheVariants.{MessageEnded, BadTypeInfo}
use Rattle.tds_packet.specs.declared.fault.Stop.{Stop}
use Rattle.tds_packet.specs.declared.payload.Payload.{Payload}
use Rattle.tds_packet.specs.Payloads.{seen}
use Rattle.tds_packet.specs.Elements.{Grammar}
use Rattle.tds_packet.specs.PayloadView.{PayloadView, Takes, IsBetween}
use Rattle.tds_packet.specs.Reading.{StopsReading}
use Rattle.tds_columns.specs.Description.{type_fault}

-- the number of a column in faults of such a value
abbrev pub return_column : ℕ
return_column = 65535

-- a type as far as it is read
pub data TypePart : Type 0 where
  -- before status, UserType, Flags and the type byte
  TypeHead : TypePart
  -- before the bytes that follow this type byte
  TypeRest : ℕ → TypePart
  -- all of it
  KnownType : Kind → TypePart
  -- bytes that describe no type
  NoType : TypePart

-- its kind, if it is one
abbrev pub with_known : Option Kind → TypePart
with_known (Some kind) = KnownType kind
with_known None = NoType

-- its type byte is read, and this number of bytes follows
abbrev pub with_type_byte : ℕ → ℕ → TypePart
with_type_byte byte rest = if rest == 0 then with_known (kind_of (byte ∷ [])) else TypeRest byte

-- how many bytes the next element has; 0 if nothing follows
abbrev pub type_size : TypePart → ℕ
type_size TypeHead = 8
type_size (TypeRest byte) = unwrap_or (rest_length byte) 0
type_size part = 0

-- the first fault of an element
abbrev pub type_part_fault : TypePart → List ℕ → Option Fault
type_part_fault TypeHead element = type_fault return_column (slice_index element 7) (rest_length (slice_index element 7))
type_part_fault (TypeRest byte) element = if is_some (kind_of (byte ∷ element)) then None else Some (BadTypeInfo return_column)
type_part_fault part element = None

-- the state after an element
abbrev pub type_add : TypePart → List ℕ → TypePart
type_add TypeHead element = with_type_byte (slice_index element 7) (unwrap_or (rest_length (slice_index element 7)) 0)
type_add (TypeRest byte) element = with_known (kind_of (byte ∷ element))
type_add part element = part

-- the fault of a message that ends here
abbrev pub type_end : TypePart → Option Fault
type_end (KnownType kind) = None
type_end part = Some MessageEnded

-- How such a type is read.
abbrev pub returned_type : Grammar TypePart Fault
returned_type = record { size = type_size; fault = type_part_fault; add = type_add; end_fault = type_end }

-- The area has the eight bytes that were just read from the payload, and room for seven more.
pub record HoldsHead {R : Type 0} (payload : Payload R) (area : Space) : Type 0 where
  pub place : 8 ≤ payload.place
  pub eight : length area.bytes ≡ 8
  pub room : 15 ≤ area.room

-- Reading such a type left that area its room, raised its peak to fifteen bytes at most, and left its bytes if it stopped.
pub record LeavesHead {U : Type 0} (before after : Space) (result : Result U Stop) : Type 0 where
  pub room : after.room ≡ before.room
  pub bound : after.peak ≤ max before.peak 15
  pub kept : OnErr result (after.bytes ≡ before.bytes)

-- What follows the type byte that ends these eight bytes was read, and stands after them: together they describe the kind.
pub record ReadsType (eight held : List ℕ) (old new : PayloadView) (place place' : ℕ) (kind : Kind) : Type 0 where
  pub rest : List ℕ
  pub stands : held ≡ eight ++ rest
  pub info : IsTypeInfo kind (slice_index eight 7 ∷ rest)
  pub takes : Takes old new rest (length rest)
  pub place_is : place' ≡ place + length rest

-- The same, over a payload and an area before and after it.
abbrev pub ReturnTypeRead : {R : Type 0} → (R → Option (List ℕ)) → (old new : Payload R) → (before after : Space) → Kind → Type 0
ReturnTypeRead remaining old new before after kind = ReadsType before.bytes after.bytes (seen remaining old) (seen remaining new) old.place new.place kind

-- The reading of such a type stopped.
pub record StopsType (old new : PayloadView) (place : ℕ) (stop : Stop) : Type 0 where
  pub at : TypePart
  pub stops : StopsReading returned_type TypeHead old new place at stop

-- These eight bytes were taken from a payload just before.
abbrev pub WereTaken : PayloadView → PayloadView → List ℕ → Type 0
WereTaken old new head = Takes old new head 8 × IsBetween new
