-- What the read of one packet does.
use Rattle.std.specs.Prelude.{◌≡◌, ◌⊎◌, ℕ, ◌<◌, ◌≤◌, List, [], ◌++◌, Bool, take, length, slice_index, Option, Some, None, Result, Ok, Err, ⊤}
use Rattle.std.specs.Io.KnownBytes.{Consumes, IsAtEnd}
use Rattle.tds_meter.specs.Space.{Space}
use Rattle.tds_packet.specs.Devices.{Device}
use Rattle.tds_packet.specs.Filling.{FallsShort, FillsSlice, IsAnswered, Rises, Stays}
use Rattle.tds_packet.specs.declared.counted.Short.TheVariants.{Ended, Failed}
use Rattle.tds_packet.specs.declared.fault.Fault.{Fault}
use Rattle.tds_packet.specs.declared.fault.Fault.TheVariants.{MessageEnded, ReadFailed, InputEnded, WrongPacketType, BadPacketLength, ResponseTooLong}
use Rattle.tds_packet.specs.declared.packet.Header.{Header}
use Rattle.tds_packet.specs.Packets.{header_length, header_fault, is_last_status}
use Rattle.tds_packet.specs.Coming.{WholePacket, NoPacket, front_packet}

-- a header that was judged: its fault, or what it says
abbrev pub judged_header : List ℕ → Option Fault → Result Header Fault
judged_header header (Some fault) = Err fault
judged_header header None = Ok (record { length = header_length header; last = is_last_status (slice_index header 1) })

-- a header after this many bytes of the wire
abbrev pub header_of : ℕ → ℕ → ℕ → List ℕ → Result Header Fault
header_of size limit wire header = judged_header header (header_fault size limit wire header)

-- Fewer than n bytes were read, for the reason that the fault names.
abbrev pub Faulted : (old new : Device) → ℕ → Fault → Type 0
Faulted old new n InputEnded = FallsShort old new n Ended
Faulted old new n ReadFailed = FallsShort old new n Failed
Faulted old new n fault = ⊥

-- All was read, or there is such a fault.
abbrev pub FillsFrom : {U : Type 0} → (old new : Device) → List ℕ → Result U Fault → Type 0
FillsFrom old new bytes (Ok x) = FillsSlice old new bytes (Ok x)
FillsFrom old new bytes (Err fault) = Faulted old new (length bytes) fault

-- These bytes are a packet after this many bytes of the wire, whatever follows them, and no beginning of them is one.
abbrev pub IsFrontPacket : ℕ → ℕ → ℕ → List ℕ → List ℕ → Bool → ℕ → Type 0
IsFrontPacket size limit wire read body last n = ((zs : List ℕ) → front_packet size limit wire (read ++ zs) ≡ WholePacket body last n zs)
    × ((j : ℕ) → j < length read → front_packet size limit wire (take j read) ≡ NoPacket InputEnded []) × (length read ≡ n)

-- A header was read that the rules refuse, whatever follows it.
abbrev pub RefusesHeader : (size limit wire : ℕ) → (old new : Device) → Fault → Type 0
RefusesHeader size limit wire old new fault = (read : List ℕ) × Consumes old.bytes new.bytes read
    × ((zs : List ℕ) → front_packet size limit wire (read ++ zs) ≡ NoPacket fault zs) × Stays old.failures new.failures read

-- The input was over before a packet was whole.
abbrev pub GivesOut : (size limit wire : ℕ) → (old new : Device) → Fault → Type 0
GivesOut size limit wire old new fault = (fault ≡ InputEnded) × (read : List ℕ) × Consumes old.bytes new.bytes read
    × IsAtEnd new.bytes × (front_packet size limit wire read ≡ NoPacket InputEnded []) × IsAnswered old.failures new.failures

-- A read failed, which was counted, before a packet was whole or its header refused.
abbrev pub FailsInPacket : (size limit wire : ℕ) → (old new : Device) → Fault → Type 0
FailsInPacket size limit wire old new fault = (fault ≡ ReadFailed) × (read : List ℕ) × Consumes old.bytes new.bytes read
    × (front_packet size limit wire read ≡ NoPacket InputEnded []) × Rises old.failures new.failures read

-- The first packet was read, or it has a fault, or a read failed.
abbrev pub ReadsPacket : (size limit wire : ℕ) → (old new : Device) → List ℕ → Result Header Fault → Type 0
ReadsPacket size limit wire old new body (Ok h) = (read : List ℕ) × Consumes old.bytes new.bytes read
    × IsFrontPacket size limit wire read body h.last h.length × Stays old.failures new.failures read
ReadsPacket size limit wire old new body (Err fault) = RefusesHeader size limit wire old new fault
    ⊎ (GivesOut size limit wire old new fault ⊎ FailsInPacket size limit wire old new fault)

-- The area has the room that it had, and its peak is within it.
pub record KeepsRoom (before after : Space) : Type 0 where
  pub room : after.room ≡ before.room
  pub peak : after.peak ≤ after.room

-- A fault of packets.
abbrev pub IsOfPackets : Fault → Type 0
IsOfPackets InputEnded = ⊤
IsOfPackets ReadFailed = ⊤
IsOfPackets (WrongPacketType kind) = ⊤
IsOfPackets (BadPacketLength n) = ⊤
IsOfPackets ResponseTooLong = ⊤
IsOfPackets fault = ⊥

-- A fault that a payload itself stops with: of packets, or that the message ended.
abbrev pub IsOfPayload : Fault → Type 0
IsOfPayload MessageEnded = ⊤
IsOfPayload fault = IsOfPackets fault
