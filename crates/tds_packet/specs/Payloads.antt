-- How the fields of a payload are seen.
use Rattle.std.specs.Prelude.{◌≡◌, ℕ, ◌+◌, ◌-◌, ◌^◌, ◌<◌, ◌≤◌, Bool, true, false, IsTrue, List, [], length, take, drop, Option, Some, None, Result}
use Rattle.std.specs.Prelude.{Err, IfErr, IfSome, MatchResult, OnOk, ⊤}
use Rattle.std.specs.Borrow.{Fml, RattleType, MutBor}
use Rattle.std.specs.Io.BufRead.{Rests}
use mir.Syntax.{named}
use Rattle.tds_packet.specs.declared.counted.Counted.{Counted}
use Rattle.tds_packet.specs.declared.fault.Stop.{Stop}
use Rattle.tds_packet.specs.declared.payload.Payload.{Payload}
use Rattle.tds_packet.specs.contracts.payload.Payload.{the_row}
use Rattle.tds_packet.specs.Coming.{coming_of}
use Rattle.tds_packet.specs.Reads.{IsOfPayload}
use Rattle.tds_packet.specs.PayloadView.{Ends, IsBetween, IsNotOver, IsOver, PayloadView, Takes, began_at, begun}

-- the bytes of its packet that are not handed out
abbrev pub buffered : {R : Type 0} → Payload R → List ℕ
buffered p = drop p.at p.packet.now.bytes

-- the payload as contracts see it, if this tells the bytes that its reader has left
abbrev pub seen : {R : Type 0} → (R → Option (List ℕ)) → Payload R → PayloadView
seen remaining p = record {
  left = remaining p.from.now.device;
  future = coming_of p.packet.now.room p.max_wire p.wire p.place p.last p.stopped (buffered p);
  wire = p.wire;
  failures = p.from.now.failures;
}

-- Once stopped, nothing of the packet is left.
abbrev pub IsUsedUp : {R : Type 0} → Payload R → Option Stop → Type 0
IsUsedUp p None = ⊤
IsUsedUp p (Some stop) = p.at ≡ length p.packet.now.bytes

-- Its numbers lie within one another.
pub record IsSound {R : Type 0} (p : Payload R) : Type 0 where
  pub at : p.at ≤ length p.packet.now.bytes
  pub place : p.place + (length p.packet.now.bytes - p.at) ≤ p.wire
  pub wire : p.wire ≤ p.max_wire
  pub limit : p.max_wire ≤ 2 ^ 56
  pub peak : p.packet.now.peak ≤ p.packet.now.room
  pub used_up : IsUsedUp p p.stopped

-- It is on the same reader and area, under the same limits.
abbrev pub IsOnSame : {R : Type 0} → Payload R → Payload R → Type 0
IsOnSame old new = (new.from.ghost_name ≡ old.from.ghost_name) × (new.packet.ghost_name ≡ old.packet.ghost_name)
    × (new.packet.now.room ≡ old.packet.now.room) × (new.max_wire ≡ old.max_wire)

-- It hands out bytes: it is sound, and has not stopped.
pub record IsGoing {R : Type 0} (p : Payload R) : Type 0 where
  pub sound : IsSound p
  pub going : p.stopped ≡ None

-- A call left it sound, on the same reader and area, and going if it returned no error; if it returned a stop of the payload's own, at that stop.
pub record LeavesPayload {R U : Type 0} (old new : Payload R) (result : Result U Stop) : Type 0 where
  pub sound : IsSound new
  pub same : IsOnSame old new
  pub going : OnOk result (new.stopped ≡ None)
  pub stopped : IfErr result (λ stop. IsOfPayload stop.fault → new.stopped ≡ Some stop)

-- What a call of the payload itself returns: it is left as above; if it returned a stop, it is at that stop; and one that had stopped returns its
-- stop again, with nothing changed.
pub record AnswersAgain {R U : Type 0} (old new : Payload R) (result : Result U Stop) : Type 0 where
  pub sound : IsSound new
  pub same : IsOnSame old new
  pub going : OnOk result (new.stopped ≡ None)
  pub stopped : IfErr result (λ stop. new.stopped ≡ Some stop)
  pub again : IfSome old.stopped (λ stop. (result ≡ Err stop) × (new ≡ old))

-- The same of a call that hands out no bytes: the place stays.
pub record AnswersInPlace {R U : Type 0} (old new : Payload R) (result : Result U Stop) : Type 0 where
  pub answers : AnswersAgain old new result
  pub place : new.place ≡ old.place

-- It needs a further packet: it hands out bytes, those of its packet are used up, and that isn't the last.
pub record NeedsPacket {R : Type 0} (p : Payload R) : Type 0 where
  pub going : IsGoing p
  pub used_up : p.at ≡ length p.packet.now.bytes
  pub more : p.last ≡ false

-- A payload at the first byte of its message: nothing was read, its area is empty, and these are its limits.
pub record IsNewPayload {R : Type 0} (remaining : R → Option (List ℕ)) (p : Payload R) (from : Counted R) (size most : ℕ) : Type 0 where
  pub sound : IsSound p
  pub room : p.packet.now.room ≡ size
  pub empty : p.packet.now.bytes ≡ []
  pub limit : p.max_wire ≡ most
  pub place : p.place ≡ 0
  pub going : p.stopped ≡ None
  pub begins : seen remaining p ≡ begun size most (remaining from.device) from.failures
  pub between : IsBetween (seen remaining p)

-- this many bytes further on in its packet
abbrev pub further : {R : Type 0} → Payload R → ℕ → Payload R
further p n = record p { at = p.at + n; place = p.place + n }

-- The bytes returned were handed out, and no packet read that one byte didn't need; or the payload stopped, and none was.
abbrev pub TakesOrEnds : {R U : Type 0} → (R → Option (List ℕ)) → Payload R → Payload R → (U → List ℕ) → Result U Stop → Type 0
TakesOrEnds remaining old new bytes result = MatchResult result
    (λ value. Takes (seen remaining old) (seen remaining new) (bytes value) 1)
    (λ stop. Ends (seen remaining old) (seen remaining new) [] stop)

-- What is told of the message's end: it is over, or a byte of it is ready.
pub record TellsEnd {R : Type 0} (remaining : R → Option (List ℕ)) (p : Payload R) (end : Bool) : Type 0 where
  pub over : IsTrue end → IsOver (seen remaining p)
  pub more : end ≡ false → IsNotOver (seen remaining p)
  pub ready : end ≡ false → 0 < length (buffered p)

-- The message ended: its last packet is used up. But for the stop, no more was read than one byte needs, and none was handed out.
pub record EndsMessage {R : Type 0} (remaining : R → Option (List ℕ)) (old new : Payload R) : Type 0 where
  pub last : new.last ≡ true
  pub used_up : new.at ≡ length new.packet.now.bytes
  pub takes : Takes (seen remaining old) (seen remaining (record new { stopped = None })) [] 1

-- The payload stopped before the slice was full; if the message ended, the stop is where the call began.
abbrev pub CutsFill : {R : Type 0} → (R → Option (List ℕ)) → Payload R → Payload R → List ℕ → Stop → Type 0
CutsFill remaining old new to stop =
    (n : ℕ) × (own : Stop) × (n < length to) × Ends (seen remaining old) (seen remaining new) (take n to) own × (stop ≡ began_at old.place own)

-- This number of bytes was handed out.
pub record PassesOver {R : Type 0} (remaining : R → Option (List ℕ)) (old new : Payload R) (n : ℕ) : Type 0 where
  pub bytes : List ℕ
  pub counted : length bytes ≡ n
  pub takes : Takes (seen remaining old) (seen remaining new) bytes n

-- The payload stopped before this number of bytes; if the message ended, the stop is where the call began.
pub record CutsPass {R : Type 0} (remaining : R → Option (List ℕ)) (old new : Payload R) (n : ℕ) (stop : Stop) : Type 0 where
  pub part : List ℕ
  pub own : Stop
  pub fewer : length part < n
  pub ends : Ends (seen remaining old) (seen remaining new) part own
  pub stop_is : stop ≡ began_at old.place own

-- A piece of the packet was lent, and counts as handed out; or the payload stopped.
abbrev pub LendsPiece : {R B : Type 0} → (R → Option (List ℕ)) → Payload R → Payload R → (B → List ℕ) → Result B Stop → Type 0
LendsPiece remaining old new now result = IsSound new × IsOnSame old new
    × MatchResult result
    (λ piece. Takes (seen remaining old) (seen remaining new) (now piece) 1 × IsBetween (seen remaining new)
    × (new.place ≡ old.place + length (now piece)) × (new.stopped ≡ None))
    (λ stop. Ends (seen remaining old) (seen remaining new) [] stop × (new.place ≡ old.place) × (new.stopped ≡ Some stop))
    × IfSome old.stopped (λ stop. (result ≡ Err stop) × (new ≡ old))

-- The payload of which a piece was lent ends so.
abbrev pub RestsPayload : (R : RattleType) → MutBor (Payload R.Denot) → (Payload R.Denot → Type 0) → Fml
RestsPayload R s P = Rests (the_row (record { mir = named 0; lft = [] }) R) s P
