-- The lines on standard error.
use Rattle.std.specs.Prelude.{ℕ, ℤ, List, [], ◌∷◌, ◌++◌, ◌≤◌, Option, None, Some, Result, Ok, Err, codes, decimal, length, map, flat_map, nat_lt}
use Rattle.std.specs.Prelude.{◌==◌, ◌||◌, if◌then◌else◌}
use Rattle.std.specs.Fmt.{signed_decimal}
use Rattle.std.specs.List.{concat}
use Rattle.hex.specs.Hex.{encode_lower}
use Rattle.tds_packet.specs.declared.fault.Fault.{Fault}
use Rattle.tds_packet.specs.declared.fault.Fault.TheVariants.{ReadFailed, InputEnded, WrongPacketType, BadPacketLength, ResponseTooLong, RefusedToken}
use Rattle.tds_packet.specs.declared.fault.Fault.TheVariants.{MessageEnded, EndWithoutDone, NoColumns, RefusedColumn, UnknownType, BadTypeInfo}
use Rattle.tds_packet.specs.declared.fault.Fault.TheVariants.{DescriptionTooLong, RowWithoutColumns, BadValueLength, BadValue, OddText, PlpLength}
use Rattle.tds_packet.specs.declared.fault.Fault.TheVariants.{BadNotice, WriteFailed, BadText}
use Rattle.tds_packet.specs.declared.fault.Place.{Place}
use Rattle.tds_packet.specs.declared.fault.Place.TheVariants.{Wire, Payload, Text}
use Rattle.tds_packet.specs.declared.fault.RefusedKind.{RefusedKind}
use Rattle.tds_packet.specs.declared.fault.RefusedKind.TheVariants.{Flt4, Flt8, FltN, Text as OldText, NText, Image, SsVariant, Udt, Xml}
use Rattle.tds_packet.specs.declared.answer.Recut.{Recut}
use Rattle.tds_packet.specs.declared.answer.RecutStop.{RecutStop}
use Rattle.tds_packet.specs.Faults.{number_of}
use Rattle.tds_export.specs.declared.report.Report.{Report}
use Rattle.tds_export.specs.declared.report.ServerError.{ServerError}
use Rattle.tds_export.specs.declared.report.Stopped.{Stopped}
use Rattle.tds_replay.specs.declared.pieces.Piece.{Piece}
use Rattle.tds_replay.specs.declared.pieces.Piece.TheVariants as pieces

-- a byte as 0x and two lower-case digits
abbrev pub byte_text : ℕ → List ℕ
byte_text byte = codes "0x" ++ encode_lower (byte ∷ [])

-- a piece of a line
abbrev pub piece_text : Piece → List ℕ
piece_text (pieces.Text text) = text.now
piece_text (pieces.Number text n) = text.now ++ decimal n
piece_text (pieces.Signed text n) = text.now ++ signed_decimal n
piece_text (pieces.Byte text byte) = text.now ++ byte_text byte

-- the text of pieces, one after the other
abbrev pub text_of : List Piece → List ℕ
text_of xs = flat_map piece_text xs

-- the name of a fault
abbrev pub fault_name : Fault → List ℕ
fault_name ReadFailed = codes "ReadFailed"
fault_name InputEnded = codes "InputEnded"
fault_name (WrongPacketType kind) = codes "WrongPacketType"
fault_name (BadPacketLength n) = codes "BadPacketLength"
fault_name ResponseTooLong = codes "ResponseTooLong"
fault_name (RefusedToken byte) = codes "RefusedToken"
fault_name MessageEnded = codes "MessageEnded"
fault_name EndWithoutDone = codes "EndWithoutDone"
fault_name NoColumns = codes "NoColumns"
fault_name (RefusedColumn index kind) = codes "RefusedColumn"
fault_name (UnknownType index byte) = codes "UnknownType"
fault_name (BadTypeInfo index) = codes "BadTypeInfo"
fault_name DescriptionTooLong = codes "DescriptionTooLong"
fault_name RowWithoutColumns = codes "RowWithoutColumns"
fault_name (BadValueLength column) = codes "BadValueLength"
fault_name (BadValue column) = codes "BadValue"
fault_name (OddText column) = codes "OddText"
fault_name (PlpLength column) = codes "PlpLength"
fault_name BadNotice = codes "BadNotice"
fault_name WriteFailed = codes "WriteFailed"
fault_name (BadText column) = codes "BadText"

-- the name of a refused kind
abbrev pub kind_name : RefusedKind → List ℕ
kind_name Flt4 = codes "FLT4"
kind_name Flt8 = codes "FLT8"
kind_name FltN = codes "FLTN"
kind_name OldText = codes "TEXT"
kind_name NText = codes "NTEXT"
kind_name Image = codes "IMAGE"
kind_name SsVariant = codes "SSVARIANT"
kind_name Udt = codes "UDT"
kind_name Xml = codes "XML"

-- the fields of a fault in order, each after a space
abbrev pub fault_fields : Fault → List ℕ
fault_fields (WrongPacketType byte) = concat (codes " " ∷ byte_text byte ∷ [])
fault_fields (BadPacketLength n) = concat (codes " " ∷ decimal n ∷ [])
fault_fields (RefusedToken byte) = concat (codes " " ∷ byte_text byte ∷ [])
fault_fields (RefusedColumn index kind) = concat (codes " " ∷ decimal index ∷ codes " " ∷ kind_name kind ∷ [])
fault_fields (UnknownType index byte) = concat (codes " " ∷ decimal index ∷ codes " " ∷ byte_text byte ∷ [])
fault_fields (BadTypeInfo index) = concat (codes " " ∷ decimal index ∷ [])
fault_fields (BadValueLength column) = concat (codes " " ∷ decimal column ∷ [])
fault_fields (BadValue column) = concat (codes " " ∷ decimal column ∷ [])
fault_fields (OddText column) = concat (codes " " ∷ decimal column ∷ [])
fault_fields (PlpLength column) = concat (codes " " ∷ decimal column ∷ [])
fault_fields (BadText column) = concat (codes " " ∷ decimal column ∷ [])
fault_fields fault = []

-- what a place counts
abbrev pub place_unit : Place → List ℕ
place_unit (Wire n) = codes "wire"
place_unit (Payload n) = codes "payload"
place_unit (Text n) = codes "text"

-- how many bytes lie before a place
abbrev pub place_number : Place → ℕ
place_number (Wire n) = n
place_number (Payload n) = n
place_number (Text n) = n

-- the line of a stop
unfoldable pub stop_line : Stopped → List ℕ
stop_line s = concat (codes "fault " ∷ decimal (number_of s.fault) ∷ codes " " ∷ fault_name s.fault ∷ fault_fields s.fault ∷ codes " at " ∷ place_unit
    s.place ∷ codes " " ∷ decimal (place_number s.place)
    ∷ codes ", written " ∷ decimal s.written ∷ codes ", unwritten " ∷ decimal s.unwritten ∷ codes "\n" ∷ [])

-- the line of a report's counts
unfoldable pub counts_line : Report → List ℕ
counts_line r = concat (codes "sets " ∷ decimal r.sets ∷ codes " rows " ∷ decimal r.rows ∷ codes " errors " ∷ decimal r.errors
    ∷ codes " infos " ∷ decimal r.infos ∷ codes " written " ∷ decimal r.written ∷ codes "\n" ∷ [])

-- the line of the values that procedures returned, if there are any
unfoldable pub values_line : ℕ → List ℕ
values_line n = if n == 0 then [] else concat (codes "return values " ∷ decimal n ∷ codes "\n" ∷ [])

-- the line of the last return status, if there is one
unfoldable pub status_line : Option ℤ → List ℕ
status_line None = []
status_line (Some n) = concat (codes "return status " ∷ signed_decimal n ∷ codes "\n" ∷ [])

-- A message is no longer than what is kept of one.
abbrev pub FitsNotice : List ℕ → Type 0
FitsNotice message = length message ≤ 512

-- a byte of a message as it is printed: a control character is a space
abbrev pub shown_byte : ℕ → ℕ
shown_byte byte = if nat_lt byte 32 || byte == 127 then 32 else byte

-- the line of the first error with its message, if there is one
unfoldable pub error_line : Option ServerError → List ℕ → List ℕ
error_line None message = []
error_line (Some e) message = concat (codes "server error " ∷ signed_decimal e.number ∷ codes ", state " ∷ decimal e.state ∷ codes ", class " ∷
    decimal e.class
    ∷ codes ", line " ∷ signed_decimal e.line ∷ codes ": " ∷ map shown_byte message ∷ codes "\n" ∷ [])

-- the lines of what an export returned, with this message of the first error
abbrev pub answer_lines : Result Report Stopped → List ℕ → List ℕ
answer_lines (Ok r) message = counts_line r ++ (values_line r.return_values ++ (status_line r.return_status ++ error_line r.first_error message))
answer_lines (Err s) message = stop_line s

-- the line of a recut's numbers
unfoldable pub recut_line : Recut → List ℕ
recut_line r = concat (codes "packets " ∷ decimal r.packets ∷ codes " payload " ∷ decimal r.payload ∷ codes "\n" ∷ [])

-- the stop of a recut as that of an export
abbrev pub recut_stopped : RecutStop → Stopped
recut_stopped s = record { fault = s.stop.fault; place = s.stop.place; written = s.written; unwritten = s.unwritten }

-- the line of what a recut returned
abbrev pub recut_lines : Result Recut RecutStop → List ℕ
recut_lines (Ok r) = recut_line r
recut_lines (Err s) = stop_line (recut_stopped s)

-- the line of a file that can't be opened
unfoldable pub unreadable_line : List ℕ → List ℕ
unreadable_line path = concat (codes "cannot read " ∷ path ∷ codes "\n" ∷ [])

-- the line of want of memory
abbrev pub memory_line : List ℕ
memory_line = codes "want of memory\n"

-- the line that counts responses
unfoldable pub responses_line : ℕ → List ℕ
responses_line n = concat (codes "responses " ∷ decimal n ∷ codes "\n" ∷ [])
