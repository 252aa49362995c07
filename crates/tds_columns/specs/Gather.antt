-- What reading a description from a payload does, on success and on each stop.
use Rattle.std.specs.Prelude.{◌≡◌, ℕ, ◌+◌, ◌*◌, ◌<◌, ◌≤◌, List, [], ◌∷◌, length, take, max, Option, Some, None, Result, MatchResult}
use Rattle.tds_values.specs.declared.kind.Kind.{Kind}
use Rattle.tds_values.specs.TypeInfo.{rest_length}
use Rattle.tds_meter.specs.Space.{Space}
use Rattle.tds_packet.specs.declared.fault.Stop.{Stop}
use Rattle.tds_packet.specs.declared.payload.Payload.{Payload}
use Rattle.tds_packet.specs.Payloads.{seen}
use Rattle.tds_packet.specs.PayloadView.{PayloadView, Takes}
use Rattle.tds_packet.specs.Reading.{Reads, StopsReading}
use Rattle.tds_columns.specs.declared.metadata.Described.{Described}
use Rattle.tds_columns.specs.declared.metadata.Described.TheVariants.{Columns, NoMetadata}
use Rattle.tds_columns.specs.Description.{Column, ColumnHead, ColumnInfo, NameCount, DescriptionPart, BeforeCount, InColumn, NoDescription}
use Rattle.tds_columns.specs.Description.{WholeDescription, SpellsColumn, SpellsColumns, SpellsDescription, description, description_bytes, span, with_column}

-- Elements of a description were read, which lead from one state to another, and the area has its bytes.
pub record Describes (room : ℕ) (from : DescriptionPart) (old new : PayloadView) (place place' peak : ℕ) (area : Space) (to : DescriptionPart) : Type 0 where
  pub reads : Reads (description room) from old new to
  pub place_is : place' ≡ place + length reads.bytes
  pub kept : area.bytes ≡ description_bytes to
  pub bound : area.peak ≤ max peak (span to)
  pub further : span from ≤ span to

-- The reading of a description stopped: the area has the elements that were read whole.
pub record StopsDescribing (room : ℕ) (from : DescriptionPart) (old new : PayloadView) (place peak : ℕ) (area : Space) (stop : Stop) : Type 0 where
  pub at : DescriptionPart
  pub stops : StopsReading (description room) from old new place at stop
  pub kept : area.bytes ≡ description_bytes at
  pub bound : area.peak ≤ max peak (span at)
  pub further : span from ≤ span at

-- A column has this many bytes at the front.
abbrev pub BeginsColumn : List ℕ → ℕ → Type 0
BeginsColumn bytes size = (column : Column) × SpellsColumn column (take size bytes) × (size ≤ length bytes)

-- So do this number of columns, one after the other.
abbrev pub BeginsColumns : List ℕ → (count size : ℕ) → Type 0
BeginsColumns bytes count size = (columns : List Column) × (length columns ≡ count) × SpellsColumns columns (take size bytes) × (size ≤ length bytes)

-- So does a description of this number of columns.
abbrev pub BeginsDescription : (room : ℕ) → List ℕ → (count size : ℕ) → Type 0
BeginsDescription room bytes count size =
    (columns : List Column) × (length columns ≡ count) × SpellsDescription room columns (take size bytes) × (size ≤ length bytes)

-- This number of bytes follows this type byte, at least one.
pub record FollowsType (byte rest : ℕ) : Type 0 where
  pub known : rest_length byte ≡ Some rest
  pub some : 0 < rest

-- ---- what the calls that read a part of a description return, over a payload and an area before and after it

module _ {R U : Type 0} (remaining : R → Option (List ℕ)) (old new : Payload R) (before after : Space)
    (result : Result U Stop) where
  -- A part was read from one state on, and leads to one of these; or the reading stopped in it.
  abbrev pub PartRead : {X : Type 0} → DescriptionPart → (X → DescriptionPart) → Type 0
  PartRead {X = X} from to = let a = seen remaining old in let b = seen remaining new in MatchResult result
      (λ _. (x : X) × Describes before.room from a b old.place new.place before.peak after (to x))
      (λ stop. StopsDescribing before.room from a b old.place before.peak after stop)

  -- What follows the type byte of a column was read, whatever the columns before it are and however many there are.
  abbrev pub InfoRead : (index byte : ℕ) → Type 0
  InfoRead index byte = (count : ℕ) (columns : List Column) → length columns ≡ index → PartRead
      (InColumn before.bytes count columns (ColumnInfo byte)) (λ kind. InColumn after.bytes count columns (NameCount kind))

  -- The head of a column and its further type information were read, whatever the columns before it are.
  abbrev pub TypeRead : (count index : ℕ) → Type 0
  TypeRead count index = (columns : List Column) → length columns ≡ index → PartRead
      (InColumn before.bytes count columns ColumnHead) (λ kind. InColumn after.bytes count columns (NameCount kind))

  -- The name of a column was read after the rest of it, whatever that and the columns before it are.
  abbrev pub NameRead : (count index : ℕ) → Type 0
  NameRead count index = (columns : List Column) (kind : Kind) → length columns ≡ index → PartRead
      (InColumn before.bytes count columns (NameCount kind)) (with_column after.bytes count columns)

  -- A column was read, whatever the columns before it are.
  abbrev pub ColumnRead : (count index : ℕ) → Type 0
  ColumnRead count index = (columns : List Column) → length columns ≡ index →
      PartRead (InColumn before.bytes count columns ColumnHead) (with_column after.bytes count columns)

  -- This number of columns was read after Count.
  abbrev pub ColumnsRead : ℕ → Type 0
  ColumnsRead count = PartRead (InColumn before.bytes count [] ColumnHead)
      (λ (all : (columns : List Column) × (length columns ≡ count)). WholeDescription after.bytes all.0)

-- A Count was read: one of columns whose least bytes the room has; or that of no metadata, and nothing else.
abbrev pub DescribesCount : (room : ℕ) → (old new : PayloadView) → (place place' peak : ℕ) → Space → Described → Type 0
DescribesCount room old new place place' peak area (Columns count) =
    Describes room BeforeCount old new place place' peak area (InColumn area.bytes count [] ColumnHead)
    × (0 < count) × (length area.bytes + 8 * count ≤ room)
DescribesCount room old new place place' peak area NoMetadata =
    Describes room BeforeCount old new place place' peak area NoDescription × Takes old new (255 ∷ 255 ∷ []) 2

-- A description was read: the area has its bytes, which are those taken; or a Count of no metadata was.
abbrev pub DescribesAll : (room : ℕ) → (old new : PayloadView) → (place place' peak : ℕ) → Space → Described → Type 0
DescribesAll room old new place place' peak area (Columns count) = (columns : List Column) × (length columns ≡ count)
    × Describes room BeforeCount old new place place' peak area (WholeDescription area.bytes columns)
    × Takes old new area.bytes (length area.bytes) × SpellsDescription room columns area.bytes
DescribesAll room old new place place' peak area NoMetadata =
    DescribesCount room old new place place' peak area NoMetadata

-- Reading a description from its Count on stopped: the area's bytes are all those of the whole elements.
pub record GatherStops (room : ℕ) (old new : PayloadView) (place peak : ℕ) (area : Space) (stop : Stop) : Type 0 where
  pub describing : StopsDescribing room BeforeCount old new place peak area stop
  pub begins : area.bytes ≡ describing.stops.bytes

module _ {R : Type 0} (remaining : R → Option (List ℕ)) (old new : Payload R) (before after : Space)
    (result : Result Described Stop) where
  -- A Count was read into the area, or the reading stopped there, and the area is empty.
  abbrev pub CountRead : Type 0
  CountRead = let a = seen remaining old in let b = seen remaining new in MatchResult result
      (DescribesCount before.room a b old.place new.place before.peak after)
      (λ stop. (after.bytes ≡ []) × (after.peak ≤ max before.peak 2)
      × (old.stopped ≡ None → StopsDescribing before.room BeforeCount a b old.place before.peak after stop))

  -- A description was read into the area, or the reading stopped in it.
  abbrev pub DescriptionRead : Type 0
  DescriptionRead = let a = seen remaining old in let b = seen remaining new in MatchResult result
      (DescribesAll before.room a b old.place new.place before.peak after)
      (λ stop. old.stopped ≡ None → GatherStops before.room a b old.place before.peak after stop)
