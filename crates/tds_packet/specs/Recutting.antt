-- A payload cut into packets of one size, and what a call that cuts one leaves.
use Rattle.std.specs.Prelude.{◌≡◌, ◌⊎◌, ℕ, zero, suc, ◌+◌, ◌-◌, ◌*◌, ◌/◌, ◌%◌, ◌^◌, ◌<◌, ◌≤◌, Bool, true, false, List, [], ◌∷◌, ◌++◌, length, drop}
use Rattle.std.specs.Prelude.{take, Option, Result, IfErr, IfOk, IsTrue, MatchResult, OnOk, if◌then◌else◌}
use Rattle.std.specs.Io.KnownBytes.{Appends, Keeps}
use Rattle.tds_meter.specs.Counts.{one_more}
use Rattle.tds_packet.specs.declared.counted.Counted.{Counted}
use Rattle.tds_packet.specs.declared.fault.Fault.TheVariants.{MessageEnded, WriteFailed}
use Rattle.tds_packet.specs.declared.fault.Place.TheVariants.{Text}
use Rattle.tds_packet.specs.declared.fault.Stop.{Stop}
use Rattle.tds_packet.specs.declared.payload.Payload.{Payload}
use Rattle.tds_packet.specs.declared.answer.Recut.{Recut}
use Rattle.tds_packet.specs.declared.answer.RecutStop.{RecutStop}
use Rattle.tds_packet.specs.declared.recutting.Written.{Written}
use Rattle.tds_packet.specs.Filling.{Rises, Stays}
use Rattle.tds_packet.specs.Packets.{Packet, packet_bytes, wire_of}
use Rattle.tds_packet.specs.Payloads.{buffered, seen}
use Rattle.tds_packet.specs.PayloadView.{Ends, IsBetween, IsNotOver, IsOver, PayloadView, Takes, begun}

-- the packet after this many others: SPID 0, a PacketID that is 1 for the first and 0 after 255, Window 0 (MS-TDS, Packet Header)
abbrev pub cut_packet : ℕ → Bool → List ℕ → Packet
cut_packet number last body = record { status = if last then 1 else 0; id = 0 ∷ 0 ∷ (number + 1) % 256 ∷ 0 ∷ []; body = body }

-- the first packets of a payload, this number of them, with bodies of m bytes, if more follow them
unfoldable pub first_packets : ℕ → ℕ → List ℕ → List Packet
first_packets m zero payload = []
first_packets m (suc number) payload = first_packets m number payload ++ cut_packet number false (take m (drop (number * m) payload)) ∷ []

-- how many packets with bodies of m bytes come before the last one of a payload of n bytes
abbrev pub before_last : ℕ → ℕ → ℕ
before_last m n = (n - 1) / m

-- the packets of a payload before its last one
abbrev pub packets_before : ℕ → List ℕ → List Packet
packets_before m payload = first_packets m (before_last m (length payload)) payload

-- the last packet of a payload, with what the others leave, marked as its message's last or not
abbrev pub last_packet : ℕ → Bool → List ℕ → Packet
last_packet m last payload = let number = before_last m (length payload) in cut_packet number last (drop (number * m) payload)

-- the packets of a payload: all but the last have bodies of m bytes
abbrev pub cut_packets : ℕ → List ℕ → List Packet
cut_packets m payload = packets_before m payload ++ last_packet m true payload ∷ []

-- the stop of a writer that took a number of bytes, and left a number of a packet's
abbrev pub write_stop : ℕ → ℕ → RecutStop
write_stop written unwritten = record { stop = record { fault = WriteFailed; place = Text written }; written = written; unwritten = unwritten }

-- The writer took these bytes.
abbrev pub Gains : {W : Type 0} → (W → Option (List ℕ)) → Counted W → Counted W → List ℕ → Type 0
Gains contents old new bytes = Appends (contents old.device) (contents new.device) bytes

-- The whole payload was read, and written in packets, and the writer flushed.
pub record CutsAll {W : Type 0} (contents : W → Option (List ℕ)) (m : ℕ) (a b : PayloadView) (old new : Counted W) (done : Recut) : Type 0 where
  pub payload : List ℕ
  pub takes : Takes a b payload (length payload + 1)
  pub over : IsOver b
  pub wrote : Gains contents old new (wire_of (cut_packets m payload))
  pub done_is : done ≡ record { packets = length (cut_packets m payload); payload = length payload }
  pub failures : new.failures ≡ old.failures
  pub asked : old.failures < 2 ^ 64 - 1

-- The input stopped after these bytes of the payload. Their packets before the last one were written and the writer flushed, which may have failed.
pub record StopsInput {W : Type 0} (contents : W → Option (List ℕ)) (m : ℕ) (a b : PayloadView) (old new : Counted W) (stop : RecutStop) : Type 0 where
  pub payload : List ℕ
  pub ends : Ends a b payload stop.stop
  pub goes_on : stop.stop.fault ≡ MessageEnded → ⊥
  pub wrote : Gains contents old new (wire_of (packets_before m payload))
  pub written : stop.written ≡ length (wire_of (packets_before m payload))
  pub unwritten : stop.unwritten ≡ 0
  pub flushed : let sent = wire_of (packets_before m payload) in Stays old.failures new.failures sent ⊎ Rises old.failures new.failures sent

-- A write or the flush failed after a part of a packet, which is the message's last, or full with more bytes to come. The packets before it were
-- written.
pub record StopsOutput {W : Type 0} (contents : W → Option (List ℕ)) (m : ℕ) (a b : PayloadView) (old new : Counted W) (stop : RecutStop) : Type 0 where
  pub payload : List ℕ
  pub last : Bool
  pub part : List ℕ
  pub rest : List ℕ
  pub takes : Takes a b payload (length payload + 1)
  pub between : IsBetween b
  pub over : last ≡ true → IsOver b
  pub goes_on : last ≡ false → IsNotOver b × (length payload ≡ (before_last m (length payload) + 1) * m)
  pub split : part ++ rest ≡ packet_bytes (last_packet m last payload)
  pub wrote : Gains contents old new (wire_of (packets_before m payload) ++ part)
  pub stop_is : stop ≡ write_stop (length (wire_of (packets_before m payload) ++ part)) (length rest)
  pub failures : Rises old.failures new.failures (wire_of (packets_before m payload) ++ part)

-- A payload was written in packets with bodies of m bytes, or the input or the writer stopped that.
abbrev pub Cuts : {W : Type 0} → (W → Option (List ℕ)) → ℕ → PayloadView → PayloadView → Counted W → Counted W → Result Recut RecutStop → Type 0
Cuts contents m a b old new result =
    MatchResult result (λ done. CutsAll contents m a b old new done) (λ stop. StopsInput contents m a b old new stop
    ⊎ StopsOutput contents m a b old new stop)

-- The same of a reader of packets of at most this size, within this limit of the wire.
pub record Recuts {R W : Type 0} (remaining : R → Option (List ℕ)) (contents : W → Option (List ℕ)) (size limit m : ℕ) (from from' : Counted R)
    (to to' : Counted W) (result : Result Recut RecutStop) : Type 0 where
  pub now : PayloadView
  pub left : now.left ≡ remaining from'.device
  pub failures : now.failures ≡ from'.failures
  pub cuts : Cuts contents m (begun size limit (remaining from.device) from.failures) now to to' result

-- The bytes after 8 of a header were taken of the payload: as many as the room holds if more follow, or all that are left; or the payload stopped.
pub record Gathers {R : Type 0} (remaining : R → Option (List ℕ)) (old new : Payload R) (room : ℕ) (packet : List ℕ)
    (result : Result Bool Stop) : Type 0 where
  pub header : 8 ≤ length packet
  pub fits : length packet ≤ room
  pub gives : MatchResult result
      (λ _. Takes (seen remaining old) (seen remaining new) (drop 8 packet) (length (drop 8 packet) + 1))
      (λ stop. Ends (seen remaining old) (seen remaining new) (drop 8 packet) stop)
  pub over : IfOk result (λ last. IsTrue last → IsOver (seen remaining new))
  pub full : IfOk result (λ last. last ≡ false → (length packet ≡ room) × (0 < length (buffered new)) × IsNotOver (seen remaining new))
  pub between : OnOk result (IsBetween (seen remaining new))
  pub place : OnOk result (new.place ≡ old.place + length (drop 8 packet))
  pub goes_on : IfErr result (λ stop. stop.fault ≡ MessageEnded → ⊥)

-- A packet's bytes were written after others, or a part of them.
abbrev pub WritesPacket : {W : Type 0} → (W → Option (List ℕ)) → Counted W → Counted W → Written → List ℕ → Result Written RecutStop → Type 0
WritesPacket contents old new done bytes result = MatchResult result
    (λ more. Gains contents old new bytes × (more ≡ record { packets = done.packets + 1; bytes = done.bytes + length bytes })
    × Stays old.failures new.failures bytes)
    (λ stop. (part : List ℕ) × (rest : List ℕ) × (part ++ rest ≡ bytes) × Gains contents old new part
    × (stop ≡ write_stop (done.bytes + length part) (length rest)) × Rises old.failures new.failures part)

-- The writer was flushed after all packets, or that failed.
abbrev pub Flushes : {W : Type 0} → (W → Option (List ℕ)) → Counted W → Counted W → Written → ℕ → Result Recut RecutStop → Type 0
Flushes contents old new all payload result = Keeps (contents old.device) (contents new.device) × MatchResult result
    (λ done. (done ≡ record { packets = all.packets; payload = payload }) × (new.failures ≡ old.failures) × (old.failures < 2 ^ 64 - 1))
    (λ stop. (stop ≡ write_stop all.bytes 0) × (new.failures ≡ one_more old.failures))
