-- What the calls inside an export leave of what they were lent.
use Rattle.std.specs.Prelude.{◌≡◌, ◌<◌, Result, OnOk}
use Rattle.tds_meter.specs.Space.{Space}
use Rattle.tds_packet.specs.declared.fault.Stop.{Stop}
use Rattle.tds_packet.specs.declared.payload.Payload.{Payload}
use Rattle.tds_packet.specs.Payloads.{LeavesPayload}
use Rattle.tds_packet.specs.Reads.{KeepsRoom}

-- A call left the payload sound, on the same reader and area, and, if it returned no error, going on and further on.
pub record LeavesFurther {R U : Type 0} (old new : Payload R) (result : Result U Stop) : Type 0 where
  pub payload : LeavesPayload old new result
  pub further : OnOk result (old.place < new.place)

-- the areas that a run is lent: of its description, of a token's body, of the first error's text, and of what is kept for a moment
pub record Lent : Type 0 where
  pub description : Space
  pub token : Space
  pub notice : Space
  pub small : Space

-- these areas, at a moment
abbrev pub lent : (description token notice small : Space) → Lent
lent description token notice small = record { description = description; token = token; notice = notice; small = small }

-- A call left the areas their rooms, and all but the description's never had more than that.
pub record KeepsRooms (old new : Lent) : Type 0 where
  pub description : new.description.room ≡ old.description.room
  pub token : KeepsRoom old.token new.token
  pub notice : KeepsRoom old.notice new.notice
  pub small : KeepsRoom old.small new.small
