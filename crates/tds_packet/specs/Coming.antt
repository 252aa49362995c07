-- What a payload has still to give, and how reading from it stops.
use Rattle.std.specs.Prelude.{◌≡◌, ◌⊎◌, ℕ, zero, suc, ◌+◌, ◌-◌, Bool, true, false, List, [], ◌++◌, length, take, drop, Option, Some, None, nat_lt}
use Rattle.std.specs.Prelude.{slice_index, if◌then◌else◌}
use Rattle.tds_packet.specs.declared.fault.Fault.{Fault}
use Rattle.tds_packet.specs.declared.fault.Fault.TheVariants.{InputEnded, MessageEnded}
use Rattle.tds_packet.specs.declared.fault.Place.{Place}
use Rattle.tds_packet.specs.declared.fault.Place.TheVariants.{Wire, Payload}
use Rattle.tds_packet.specs.declared.fault.Stop.{Stop}
use Rattle.tds_packet.specs.Packets.{Packet, wire_of, payload_of, AreBefore, AreMessage, Front, WireFault, header_length, header_fault}
use Rattle.tds_packet.specs.Packets.{is_last_status}

-- the bytes to come, the stop after them, and what the reader has left then
pub record Coming : Type 0 where
  pub bytes : List ℕ
  pub stop : Stop
  pub rest : List ℕ

-- nothing but a stop
abbrev pub stopped_at : Fault → Place → List ℕ → Coming
stopped_at fault place rest = record { bytes = []; stop = record { fault = fault; place = place }; rest = rest }

-- these bytes come first
abbrev pub before : List ℕ → Coming → Coming
before bytes c = record { bytes = bytes ++ c.bytes; stop = c.stop; rest = c.rest }

-- the packet at the front of an input: its body, whether it is the last, its Length and what follows; or a fault, and what the reader has left
pub data FrontPacket : Type 0 where
  WholePacket : List ℕ → Bool → ℕ → List ℕ → FrontPacket
  NoPacket : Fault → List ℕ → FrontPacket

-- a header is judged, and its body read
abbrev pub packet_after_header : List ℕ → List ℕ → Option Fault → FrontPacket
packet_after_header header rest (Some fault) = NoPacket fault rest
packet_after_header header rest None =
    if nat_lt (length rest) (header_length header - 8) then NoPacket InputEnded []
    else WholePacket (take (header_length header - 8) rest) (is_last_status (slice_index header 1)) (header_length header)
    (drop (header_length header - 8) rest)

-- the first packet of an input, after this many bytes of the wire
unfoldable pub front_packet : ℕ → ℕ → ℕ → List ℕ → FrontPacket
front_packet size limit wire input =
    if nat_lt (length input) 8 then NoPacket InputEnded []
    else packet_after_header (take 8 input) (drop 8 input) (header_fault size limit wire (take 8 input))

-- what comes of a packet, and of more after it unless it is the last
abbrev pub after_packet : (ℕ → ℕ → List ℕ → Coming) → ℕ → ℕ → FrontPacket → Coming
after_packet more wire place (WholePacket body true n rest) = before body (stopped_at MessageEnded (Payload (place + length body)) rest)
after_packet more wire place (WholePacket body false n rest) = before body (more (wire + n) (place + length body) rest)
after_packet more wire place (NoPacket fault rest) = stopped_at fault (Wire wire) rest

-- what comes of an input, after this many bytes of the wire and of the payload; the first number is more than the input's length
unfoldable pub message : ℕ → ℕ → ℕ → ℕ → ℕ → List ℕ → Coming
message size limit zero wire place input = stopped_at InputEnded (Wire wire) input
message size limit (suc fuel) wire place input = after_packet (message size limit fuel) wire place (front_packet size limit wire input)

-- what comes of a whole input
abbrev pub whole_message : ℕ → ℕ → List ℕ → Coming
whole_message size limit input = message size limit (suc (length input)) 0 0 input

-- what comes of a payload: its limits, the bytes of the wire and of the payload after it, whether its packet is the last, the stop that it is at, and
-- the bytes of its packet that are left
unfoldable pub coming_of : ℕ → ℕ → ℕ → ℕ → Bool → Option Stop → List ℕ → List ℕ → Coming
coming_of size limit wire place last (Some stop) left input = record { bytes = []; stop = stop; rest = input }
coming_of size limit wire place true None left input = before left (stopped_at MessageEnded (Payload (place + length left)) input)
coming_of size limit wire place false None left input = before left (message size limit (suc (length input)) wire (place + length left) input)

-- What comes is the payload of the packets at the front of the input. It stops at the message's end, or with the fault of the wire after them.
pub record IsFrontMessage (size limit : ℕ) (input : List ℕ) (c : Coming) : Type 0 where
  pub packets : List Packet
  pub front : Front size limit input packets
  pub bytes : c.bytes ≡ payload_of packets
  pub stop :
      (AreMessage size packets × (c.stop ≡ record { fault = MessageEnded; place = Payload (length (payload_of packets)) })
      × (wire_of packets ++ c.rest ≡ input))
      ⊎ (AreBefore size packets × WireFault size limit input packets c.stop.fault × (c.stop.place ≡ Wire (length (wire_of packets))))
