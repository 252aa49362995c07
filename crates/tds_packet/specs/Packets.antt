-- Packets of a tabular result (MS-TDS, Packets).
use Rattle.std.specs.Prelude.{◌≡◌, ◌==◌, ◌||◌, ◌+◌, ◌*◌, ◌-◌, ◌%◌, ◌/◌, ◌≤◌, ◌⊎◌, ℕ, Bool, true, false, List, [], ◌∷◌, ◌++◌, length, drop, flat_map}
use Rattle.std.specs.Prelude.{Option, Some, None, if◌then◌else◌, nat_lt, slice_index}
use Rattle.tds_packet.specs.declared.fault.Fault.{Fault}
use Rattle.tds_packet.specs.declared.fault.Fault.TheVariants.{InputEnded, WrongPacketType, BadPacketLength, ResponseTooLong}
use Rattle.tds_packet.specs.Elements.{Grammar, Longest, IsRefused}

-- a packet: its Status, the four bytes SPID, PacketID and Window, and its body
pub record Packet : Type 0 where
  pub status : ℕ
  pub id : List ℕ
  pub body : List ℕ

-- the Length of a packet, its header included
abbrev pub packet_length : Packet → ℕ
packet_length p = 8 + length p.body

-- its bytes (MS-TDS, Packet Header)
abbrev pub packet_bytes : Packet → List ℕ
packet_bytes p = (4 ∷ p.status ∷ packet_length p / 256 ∷ packet_length p % 256 ∷ p.id) ++ p.body

-- the bytes of packets, joined
abbrev pub wire_of : List Packet → List ℕ
wire_of = flat_map packet_bytes

-- the bodies of packets, joined
abbrev pub payload_of : List Packet → List ℕ
payload_of = flat_map (λ p. p.body)

-- the bit 0x01 of its Status marks the message's last packet
abbrev pub is_last_status : ℕ → Bool
is_last_status status = status % 2 == 1

-- whether a packet is its message's last
abbrev pub is_last : Packet → Bool
is_last p = is_last_status p.status

-- The packet may be in a message of packets of at most this size.
pub record IsPacket (size : ℕ) (p : Packet) : Type 0 where
  pub id : length p.id ≡ 4
  pub fits : packet_length p ≤ size

-- Each packet may be there, and none is the last.
abbrev pub AreBefore : ℕ → List Packet → Type 0
AreBefore size [] = Unit {0}
AreBefore size (p ∷ ps) = IsPacket size p × (is_last p ≡ false) × AreBefore size ps

-- Each packet may be there, and only the last one is marked so.
abbrev pub AreMessage : ℕ → List Packet → Type 0
AreMessage size [] = ⊥
AreMessage size (p ∷ []) = IsPacket size p × (is_last p ≡ true)
AreMessage size (p ∷ q ∷ ps) = IsPacket size p × (is_last p ≡ false) × AreMessage size (q ∷ ps)

-- The wire is a whole message of these packets, within the limits. The Lengths add up to the length of the wire.
pub record Message (size limit : ℕ) (packets : List Packet) (wire : List ℕ) : Type 0 where
  pub spelt : wire_of packets ≡ wire
  pub each : AreMessage size packets
  pub within : length wire ≤ limit

-- The packet follows these at the beginning of the input, whole and within the limits.
pub record IsNextPacket (size limit : ℕ) (input : List ℕ) (packets : List Packet) (next : Packet) : Type 0 where
  pub more : List ℕ
  pub spelt : input ≡ (wire_of packets ++ packet_bytes next) ++ more
  pub rules : IsPacket size next
  pub within : length (wire_of packets ++ packet_bytes next) ≤ limit

-- The packets are those that the input begins with, up to the first that is the last, or as far as whole packets within the limits follow.
pub record Front (size limit : ℕ) (input : List ℕ) (packets : List Packet) : Type 0 where
  pub rest : List ℕ
  pub spelt : wire_of packets ++ rest ≡ input
  pub within : length (wire_of packets) ≤ limit
  pub stops : AreMessage size packets ⊎ (AreBefore size packets × ((next : Packet) → IsNextPacket size limit input packets next → ⊥))

-- where a wire is read: before a header, after one, or after the last packet
pub data WirePlace : Type 0 where
  BeforeHeader : WirePlace
  BeforeBody : List ℕ → WirePlace
  AfterLast : WirePlace

-- a wire as far as it is read: its whole packets, and what is read of the next one
pub record WirePart : Type 0 where
  pub packets : List Packet
  pub place : WirePlace

-- nothing of a wire is read
abbrev pub no_wire : WirePart
no_wire = record { packets = []; place = BeforeHeader }

-- the Length that a header gives
abbrev pub header_length : List ℕ → ℕ
header_length header = 256 * slice_index header 2 + slice_index header 3

-- the packet of a header and a body
abbrev pub packet_of : List ℕ → List ℕ → Packet
packet_of header body = record { status = slice_index header 1; id = drop 4 header; body = body }

-- a packet is whole: the wire goes on with the next, or ends here
abbrev pub with_packet : List Packet → Packet → WirePart
with_packet packets p = record { packets = packets ++ p ∷ []; place = if is_last p then AfterLast else BeforeHeader }

-- a header after this many bytes of the wire is judged by its Type, its Length and the limit of the wire, in this order
abbrev pub header_fault : ℕ → ℕ → ℕ → List ℕ → Option Fault
header_fault size limit before header =
    if slice_index header 0 == 4
    then (if nat_lt (header_length header) 8 || nat_lt size (header_length header) then Some (BadPacketLength (header_length header))
    else if nat_lt limit (before + header_length header) then Some ResponseTooLong else None)
    else Some (WrongPacketType (slice_index header 0))

-- how many bytes the next element has: a header 8, a body what its header says
abbrev pub wire_size : WirePlace → ℕ
wire_size BeforeHeader = 8
wire_size (BeforeBody header) = header_length header - 8
wire_size AfterLast = 0

-- the first fault of an element: only headers are judged
abbrev pub wire_fault : ℕ → ℕ → List Packet → WirePlace → List ℕ → Option Fault
wire_fault size limit packets BeforeHeader header = header_fault size limit (length (wire_of packets)) header
wire_fault size limit packets (BeforeBody header) body = None
wire_fault size limit packets AfterLast bytes = None

-- the state after an element
abbrev pub wire_add : List Packet → WirePlace → List ℕ → WirePart
wire_add packets BeforeHeader header = if header_length header == 8 then with_packet packets (packet_of header []) else record
    { packets = packets; place = BeforeBody header }
wire_add packets (BeforeBody header) body = with_packet packets (packet_of header body)
wire_add packets AfterLast bytes = record { packets = packets; place = AfterLast }

-- the fault of an input that ends here
abbrev pub wire_end : WirePlace → Option Fault
wire_end AfterLast = None
wire_end _ = Some InputEnded

-- How a wire is read: a header of 8 bytes, then the body whole.
abbrev pub wire : ℕ → ℕ → Grammar WirePart Fault
wire size limit = record {
  size = λ w. wire_size w.place;
  fault = λ w element. wire_fault size limit w.packets w.place element;
  add = λ w element. wire_add w.packets w.place element;
  end_fault = λ w. wire_end w.place;
}

-- The input's whole packets are these, and its end or the bytes after them give this fault.
pub record WireFault (size limit : ℕ) (input : List ℕ) (packets : List Packet) (fault : Fault) : Type 0 where
  pub taken : ℕ
  pub read : WirePart
  pub longest : Longest (wire size limit) no_wire input taken read
  pub packets_are : read.packets ≡ packets
  pub first : IsRefused (wire size limit) read (drop taken input) fault
      ⊎ (((f : Fault) → IsRefused (wire size limit) read (drop taken input) f → ⊥) × ((wire size limit).end_fault read ≡ Some fault))
