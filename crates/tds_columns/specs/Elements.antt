-- What reading an element to the end of an area does.
use Rattle.std.specs.Prelude.{◌≡◌, ℕ, ◌+◌, ◌<◌, ◌≤◌, List, length, max, Option, None, Result, MatchResult, OnErr}
use Rattle.tds_meter.specs.Space.{Space, appended}
use Rattle.tds_packet.specs.declared.fault.Stop.{Stop}
use Rattle.tds_packet.specs.declared.payload.Payload.{Payload}
use Rattle.tds_packet.specs.Payloads.{LeavesPayload, seen}
use Rattle.tds_packet.specs.PayloadView.{PayloadView, Takes, Ends, IsBetween, began_at}

-- This number of bytes was read, and is at the end of the area.
pub record TakesInto (old new : PayloadView) (before after : Space) (n : ℕ) : Type 0 where
  pub element : List ℕ
  pub whole : length element ≡ n
  pub takes : Takes old new element n
  pub between : IsBetween new
  pub stands : after ≡ appended before element

-- Fewer were read, and the area has what it had.
pub record EndsInto (old new : PayloadView) (before after : Space) (place n : ℕ) (stop : Stop) : Type 0 where
  pub part : List ℕ
  pub fewer : length part < n
  pub own : Stop
  pub ends : Ends old new part own
  pub stop_is : stop ≡ began_at place own
  pub stands : after.bytes ≡ before.bytes
  pub peak : after.peak ≤ max before.peak (length before.bytes + n)

-- The area has what it had, though it may have held n bytes more for a moment.
abbrev pub KeepsBytes : Space → Space → ℕ → Type 0
KeepsBytes before after n = (after.bytes ≡ before.bytes) × (after.peak ≤ max before.peak (length before.bytes + n))

-- A call that was to read n bytes to the end of an area left it its room and, if it stopped, its bytes.
pub record LeavesArea {U : Type 0} (before after : Space) (n : ℕ) (result : Result U Stop) : Type 0 where
  pub room : after.room ≡ before.room
  pub kept : OnErr result (KeepsBytes before after n)

-- A call that reads into an area left the payload as each call does, and the area's room.
pub record LeavesReading {R U : Type 0} (old new : Payload R) (before after : Space) (result : Result U Stop) : Type 0 where
  pub payload : LeavesPayload old new result
  pub room : after.room ≡ before.room

-- This number of bytes was read to the end of an area; or fewer, if the payload had not stopped before.
abbrev pub ElementRead : {R U : Type 0} → (R → Option (List ℕ)) → (old new : Payload R) → (before after : Space) → ℕ → Result U Stop → Type 0
ElementRead remaining old new before after n result = MatchResult result
    (λ _. TakesInto (seen remaining old) (seen remaining new) before after n)
    (λ stop. old.stopped ≡ None → EndsInto (seen remaining old) (seen remaining new) before after old.place n stop)
