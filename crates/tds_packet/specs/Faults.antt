-- The faults by their numbers.
use Rattle.std.specs.Prelude.{ℕ}
use Rattle.tds_packet.specs.declared.fault.Fault.{Fault}
use Rattle.tds_packet.specs.declared.fault.Fault.TheVariants.{ReadFailed, InputEnded, WrongPacketType, BadPacketLength, ResponseTooLong, RefusedToken}
use Rattle.tds_packet.specs.declared.fault.Fault.TheVariants.{MessageEnded, EndWithoutDone, NoColumns, RefusedColumn, UnknownType, BadTypeInfo}
use Rattle.tds_packet.specs.declared.fault.Fault.TheVariants.{DescriptionTooLong, RowWithoutColumns, BadValueLength, BadValue, OddText, PlpLength}
use Rattle.tds_packet.specs.declared.fault.Fault.TheVariants.{BadNotice, WriteFailed, BadText}

-- the number of a fault, as a report shows it
abbrev pub number_of : Fault → ℕ
number_of ReadFailed = 1
number_of InputEnded = 2
number_of (WrongPacketType kind) = 3
number_of (BadPacketLength n) = 4
number_of ResponseTooLong = 5
number_of (RefusedToken byte) = 6
number_of MessageEnded = 7
number_of EndWithoutDone = 8
number_of NoColumns = 9
number_of (RefusedColumn index kind) = 10
number_of (UnknownType index byte) = 11
number_of (BadTypeInfo index) = 12
number_of DescriptionTooLong = 13
number_of RowWithoutColumns = 14
number_of (BadValueLength column) = 15
number_of (BadValue column) = 16
number_of (OddText column) = 17
number_of (PlpLength column) = 18
number_of BadNotice = 19
number_of WriteFailed = 20
number_of (BadText column) = 21
