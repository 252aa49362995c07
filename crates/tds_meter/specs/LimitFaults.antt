-- Which numbers are limits of a run, and why others aren't.
use Rattle.std.specs.Prelude.{ℕ, ◌||◌, ◌^◌, ◌≤◌, Option, Some, None, nat_lt, if◌then◌else◌}
use Rattle.tds_meter.specs.declared.limits.LimitFault.{LimitFault}
use Rattle.tds_meter.specs.declared.limits.LimitFault.TheVariants.{PacketSize, ColumnRoom, MaxWire}

-- The greatest packet, in bytes, is in its range (MS-TDS, Packet Size).
abbrev pub IsPacketSize : ℕ → Type 0
IsPacketSize n = (512 ≤ n) × (n ≤ 32767)

-- The room for an encoded description, in bytes, is in its range: from one column of a fixed kind without a name to 64 MiB.
abbrev pub IsColumnRoom : ℕ → Type 0
IsColumnRoom n = (10 ≤ n) × (n ≤ 67108864)

-- The greatest number of wire bytes is in its range: from a packet without a body to 2 to the power of 56.
abbrev pub IsMaxWire : ℕ → Type 0
IsMaxWire n = (8 ≤ n) × (n ≤ 2 ^ 56)

-- why these numbers are no limits: the first that is out of its range
abbrev pub limit_fault : ℕ → ℕ → ℕ → Option LimitFault
limit_fault packet_size column_room max_wire =
    if nat_lt packet_size 512 || nat_lt 32767 packet_size then Some PacketSize
    else if nat_lt column_room 10 || nat_lt 67108864 column_room then Some ColumnRoom
    else if nat_lt max_wire 8 || nat_lt (2 ^ 56) max_wire then Some MaxWire
    else None
