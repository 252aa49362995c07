-- The packets at the front of an input, and what is read of it.
use Rattle.tds_packet.proofs as N
use N.{◌≡◌, ◌∙◌, ◌⊎◌, inl, inr, ℕ, suc, ◌+◌, ◌<◌, ◌≤◌, List, [], ◌∷◌, ◌++◌, length, Some, refl, sym, ap, arith, Stop, Packet, wire_of, payload_of, AreBefore}
use N.{begun}
use N.Words.{front_packet, message}
use N.ElementLaws.{AreBytes-front}
use N.PacketLaws.{header_of, front_message}

-- whole packets at the front of an input, with the rest of it after them; none but the last is marked as the last
pub record BeginsMessage (size limit : ℕ) (input rest payload : List ℕ) : Type 0 where
  pub packets : List Packet
  pub begin : wire_of packets ++ rest ≡ input
  pub each : N.AreMessage size packets ⊎ AreBefore size packets
  pub within : length (wire_of packets) ≤ limit
  pub payload_is : payload_of packets ≡ payload

-- an input that begins with nothing but packets
all_packets : {size limit : ℕ} {read rest payload : List ℕ} {place : ℕ} {c : N.Coming} → N.IsFrontMessage size limit read c → c.bytes ≡ payload → c.rest ≡ []
    → ((c.stop.fault ≡ N.MessageEnded) ⊎ (c.stop ≡ record { fault = N.InputEnded; place = N.Wire place })) → place ≡ length read
    → BeginsMessage size limit (read ++ rest) rest payload
all_packets = grind (arith, N.append-nil, N.length-append, N.nil_from_length)

-- what was taken, right after a packet, came of whole packets at the front of the input
pub takes_begins : (size limit f : ℕ) (input rest : List ℕ) (q : N.PayloadView) (bytes : List ℕ) (n : ℕ) → N.AreBytes input → q.left ≡ Some rest
    → N.Takes (begun size limit (Some input) f) q bytes n → N.IsBetween q → BeginsMessage size limit input rest (bytes ++ (q.future []).bytes)
takes_begins size limit f input rest q bytes n are left t b =
    let split = rw left at t.1.0 in
    rw split (all_packets (rw (rw N.append-nil at (t.1.1 [])) at
    (front_message size limit t.0 (AreBytes-front _ _ (rw split at are)))) refl b.0 b.1 (omega arith))

-- a read failed after these packets, all that what was read has whole, and the header after them wasn't refused
pub record FailsAfterPackets (size limit : ℕ) (input rest : List ℕ) (packets : List Packet) : Type 0 where
  pub read : List ℕ
  pub split : read ++ rest ≡ input
  pub cut : N.WireFault size limit read packets N.InputEnded

-- the payload stopped on the wire, after whole packets
pub record StopsAfterPackets (size limit : ℕ) (input rest payload : List ℕ) (failures failures' : ℕ) (stop : Stop) : Type 0 where
  pub packets : List Packet
  pub more : List ℕ
  pub begin : wire_of packets ++ more ≡ input
  pub each : AreBefore size packets
  pub within : length (wire_of packets) ≤ limit
  pub payload_is : payload_of packets ≡ payload
  pub place : stop.place ≡ N.Wire (length (wire_of packets))
  pub cause : ((stop.fault ≡ N.ReadFailed) × (failures' ≡ N.one_more failures) × FailsAfterPackets size limit input rest packets)
      ⊎ (N.WireFault size limit input packets stop.fault × (failures' ≡ failures))

-- the message ended
pub record EndsMessage (size limit : ℕ) (input rest payload : List ℕ) (failures failures' : ℕ) (stop : Stop) : Type 0 where
  pub packets : List Packet
  pub begin : wire_of packets ++ rest ≡ input
  pub each : N.AreMessage size packets
  pub within : length (wire_of packets) ≤ limit
  pub payload_is : payload_of packets ≡ payload
  pub ended : stop ≡ record { fault = N.MessageEnded; place = N.Payload (length payload) }
  pub same : failures' ≡ failures

-- a payload's stop, where its reader tells its bytes
pub ends_front : (size limit f : ℕ) (input rest : List ℕ) (q : N.PayloadView) (payload : List ℕ) (stop : Stop) → N.AreBytes input → q.left ≡ Some rest
    → N.Ends (begun size limit (Some input) f) q payload stop
    → EndsMessage size limit input rest payload f q.failures stop ⊎ StopsAfterPackets size limit input rest payload f q.failures stop
ends_front size limit f input rest q payload stop are left (inl x) = grind (arith, front_message size limit input are)
ends_front size limit f input rest q payload stop are left (inr (inl x)) = grind (arith, N.append-nil, front_message size limit input are)
ends_front size limit f input rest q payload stop are left (inr (inr x)) =
    grind (arith, N.append_assoc, front_message size limit x.0 (grind (arith, AreBytes-front)))

-- a message of which all was handed out
pub over_front : (size limit f : ℕ) (input rest : List ℕ) (q : N.PayloadView) (bytes : List ℕ) (n : ℕ) → N.AreBytes input → q.left ≡ Some rest
    → N.Takes (begun size limit (Some input) f) q bytes n → (o : N.IsOver q) → EndsMessage size limit input rest bytes f q.failures o.0
over_front size limit f input rest q bytes n are = grind (arith, N.append-nil, front_message size limit input are)

-- these packets come before the last, and have fewer bytes of the payload
pub record InLast (size : ℕ) (packets : List Packet) (n : ℕ) : Type 0 where
  pub before : List Packet
  pub last : Packet
  pub split : before ++ last ∷ [] ≡ packets
  pub none_last : AreBefore size before
  pub earlier : length (payload_of before) < n

-- packets as the last of them and those before it
split_last : {size : ℕ} (packets : List Packet) → N.AreMessage size packets ⊎ AreBefore size packets → 0 < length packets → (before : List Packet)
    × (last : Packet) × (before ++ last ∷ [] ≡ packets) × AreBefore size before
split_last [] each some = grind arith
split_last (p ∷ []) each some = ([], p, refl, tt)
split_last {size} (p ∷ q ∷ ps) each some =
    let r = split_last (q ∷ ps) (elim each [ inl x ↦ inl x.2 | inr x ↦ inr x.2 ]) (omega arith) in
    (p ∷ r.0, r.1, ap (λ l. p ∷ l) r.2, grind arith)

-- what comes of a packet before the last, and of more after it
front_whole : {size limit : ℕ} (from : ℕ) {p : Packet} {more : List ℕ} → N.IsPacket size p → N.is_last p ≡ N.false → from + N.packet_length p ≤ limit
    → front_packet size limit from (N.packet_bytes p ++ more) ≡ N.WholePacket p.body N.false (N.packet_length p) more
front_whole {size} {limit} from {p} {more} each last within = let size_is : N.header_length (header_of p) ≡ N.packet_length p = omega arith in
    rw N.append_assoc (rw (size_is, last) at (N.Joins.whole_packet size limit from (header_of p) (record {
      length = N.header_length (header_of p);
      last = N.is_last p;
    }) (omega arith) (grind arith) p.body more (omega arith)))

-- what comes of packets none of which is the last
message_before : (size limit n from place : ℕ) (packets : List Packet) → AreBefore size packets → from + length (wire_of packets) ≤ limit
    → length (wire_of packets) < n → (message size limit n from place (wire_of packets)).bytes ≡ payload_of packets
unfolding message front_packet
message_before size limit N.zero from place packets each within less = grind arith
message_before size limit (suc n) from place [] each within less = cc
message_before size limit (suc n) from place (p ∷ ps) each within less =
    let long : length (wire_of (p ∷ ps)) ≡ N.packet_length p + length (wire_of ps) = simp N.length-append (omega arith) in
    ap (λ f. (N.after_packet (message size limit n) from place f).bytes) (front_whole _ each.0 each.1 (omega arith))
    ∙ ap (λ l. p.body ++ l) (message_before _ _ n _ _ _ each.2 (omega arith) (omega arith))

-- the packets read were needed for n bytes of the payload
pub in_last : (size limit f n : ℕ) (input rest : List ℕ) (q : N.PayloadView) (bytes payload : List ℕ) → q.left ≡ Some rest
    → N.Takes (begun size limit (Some input) f) q bytes n → (p : BeginsMessage size limit input rest payload) → 0 < length payload → InLast size p.packets n
in_last size limit f n input rest q bytes payload left t p some =
    let filled = λ (ps : List Packet). elim ps as (λ ps. payload_of ps ≡ payload → 0 < length ps) [ [] ↦ grind arith | ◌∷◌ x _ ↦ omega arith ] in
    let l = split_last _ p.each (grind arith) in
    let split = rw left at t.1.0 in
    let wires = ap wire_of (sym l.2) ∙ simp (N.flat_map-append, N.append-nil) in
    let read = N.append_cancel_right t.0 (wire_of l.0 ++ N.packet_bytes l.1) rest (sym split ∙ sym p.begin ∙ ap (λ w. w ++ rest) wires) in
    let long = N.length-append (wire_of l.0) (N.packet_bytes l.1) in
    let front : N.take (length (wire_of l.0)) t.0 ≡ wire_of l.0 = rw read (N.take-append_seam _ _) in
    record { before = l.0; last = l.1; split = l.2; none_last = l.3; earlier = grind (arith, message_before) }
