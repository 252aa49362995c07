-- What an export returns and leaves.
use Rattle.std.specs.Prelude.{◌≡◌, ◌+◌, ◌*◌, ◌-◌, ◌/◌, ◌^◌, ◌<◌, ◌≤◌, ◌⊎◌, ℕ, ℤ, pos, negsuc, List, [], ◌∷◌, ◌++◌, length, take, drop, Some, Result}
use Rattle.std.specs.Prelude.{Ok, Err, if◌then◌else◌, nat_lt, option_map}
use Rattle.tds_packet.specs.declared.fault.Fault.{Fault}
use Rattle.tds_packet.specs.declared.fault.Fault.TheVariants.{InputEnded, ReadFailed, WriteFailed}
use Rattle.tds_packet.specs.declared.fault.Place.{Place}
use Rattle.tds_packet.specs.declared.fault.Place.TheVariants.{Wire, Payload, Text}
use Rattle.tds_packet.specs.Elements.{Grammar, Spelt, Longest, IsRefused, IsCut}
use Rattle.tds_packet.specs.Packets.{Packet, wire_of, payload_of, AreBefore, AreMessage, Front, WireFault}
use Rattle.tds_columns.specs.Description.{description_bytes}
use Rattle.tds_export.specs.declared.report.Report.{Report}
use Rattle.tds_export.specs.declared.report.ServerError.{ServerError}
use Rattle.tds_export.specs.declared.report.Stopped.{Stopped}
use Rattle.tds_export.specs.Tokens.{Notice, Token, text, is_set, is_row, is_error, is_info, is_return, how_many, first_error, return_status}
use Rattle.tds_export.specs.Tokens.{error_text, encoded_after}
use Rattle.tds_export.specs.Response.{Accepted}
use Rattle.tds_export.specs.TokenGrammar.{Open, Describing, Part, response_start, text_so_far, span_so_far}
use Rattle.tds_export.specs.Moments.{FailsToRead, FailsToWrite, Run, grammar_of, limits, text_put, waiting}

-- four bytes as a signed number
abbrev pub signed : ℕ → ℤ
signed n = if nat_lt n (2 ^ 31) then pos n else negsuc (2 ^ 32 - n - 1)

-- an error as the report has it
abbrev pub server_error : Notice → ServerError
server_error n = record { number = signed n.number; state = n.state; class = n.class; line = signed n.line_number }

-- the report of tokens
abbrev pub report_of : List Token → Report
report_of tokens = record {
  sets = how_many is_set tokens;
  rows = how_many is_row tokens;
  errors = how_many is_error tokens;
  infos = how_many is_info tokens;
  first_error = option_map server_error (first_error tokens);
  return_status = option_map signed (return_status tokens);
  written = length (text tokens);
  return_values = how_many is_return tokens;
}

-- The input of a run begins with a response of these tokens, in these packets.
abbrev pub IsAccepted : Run → List Token → List Packet → Type 0
IsAccepted run tokens packets =
    Accepted run.given.charset (limits run).packet_size (limits run).column_room (limits run).max_wire tokens packets run.input

-- The packets are at the beginning of the input, none but the last marked as the last, and the reader has come to their end.
pub record Packets (run : Run) (packets : List Packet) : Type 0 where
  pub begin : wire_of packets ++ run.left ≡ run.input
  pub each : AreMessage (limits run).packet_size packets ⊎ AreBefore (limits run).packet_size packets
  pub within : length (wire_of packets) ≤ (limits run).max_wire

-- how the response of a run is read
abbrev pub grammar : Run → Grammar Part Fault
grammar run = grammar_of run.given

-- The payload of the packets leads to this part of a response, and no more of it leads further.
abbrev pub ReadsPart : Run → List Packet → ℕ → Part → Type 0
ReadsPart run packets place part = Longest (grammar run) response_start (payload_of packets) place part

-- This number of bytes of the payload of the packets leads to this part of a response.
pub record Comes (run : Run) (packets : List Packet) (place : ℕ) (part : Part) : Type 0 where
  pub within : place ≤ length (payload_of packets)
  pub spelt : Spelt (grammar run) response_start (take place (payload_of packets)) part

-- The element that follows in the payload of the packets has this fault.
abbrev pub Refuses : Run → List Packet → ℕ → Part → Fault → Type 0
Refuses run packets place part fault = IsRefused (grammar run) part (drop place (payload_of packets)) fault

-- The element's end is in the last of the packets.
pub record EndsInLast (run : Run) (packets : List Packet) (place : ℕ) (part : Part) : Type 0 where
  pub before : List Packet
  pub last : Packet
  pub split : before ++ last ∷ [] ≡ packets
  pub none_last : AreBefore (limits run).packet_size before
  pub later : length (payload_of before) < place + (grammar run).size part

-- The description area has the current description, or a beginning of the one that is read.
abbrev pub IsKept : List ℕ → List Token → Open → List ℕ → Type 0
IsKept area tokens (Describing d) rest = (after : List ℕ) × (area ++ after ≡ description_bytes d ++ rest)
IsKept area tokens at rest = area ≡ encoded_after [] tokens

-- The description area has the description at the place where a run stopped.
abbrev pub Keeps : Run → List Packet → ℕ → Part → Type 0
Keeps run packets place part =
    IsKept run.given.after.areas.description.bytes part.tokens part.at (drop place (payload_of packets))

-- The response is whole, and all of its text was written.
pub record Reported (run : Run) (report : Report) : Type 0 where
  pub tokens : List Token
  pub packets : List Packet
  pub accepted : IsAccepted run tokens packets
  pub stands : Packets run packets
  pub report_is : report ≡ report_of tokens
  pub written : run.gained ≡ text tokens
  pub none_waits : waiting run ≡ []
  pub notice : run.given.after.areas.notice.bytes ≡ error_text tokens
  pub kept : run.given.after.areas.description.bytes ≡ encoded_after [] tokens
  pub no_failure : ¬ FailsToRead run.given × ¬ FailsToWrite run.given

-- A run stopped in the payload: an element is refused, or the message ends where it may not.
pub record StopsInPayload (run : Run) (fault : Fault) (place : ℕ) : Type 0 where
  pub packets : List Packet
  pub part : Part
  pub stands : Packets run packets
  pub leads : ReadsPart run packets place part
  pub first :
      (Refuses run packets place part fault × EndsInLast run packets place part)
      ⊎ (AreMessage (limits run).packet_size packets × IsCut (grammar run) part (drop place (payload_of packets))
      × ((grammar run).end_fault part ≡ Some fault))
  pub written : text_put run ≡ text_so_far part
  pub kept : Keeps run packets place part

-- A read failed: these are all the whole packets of what the reader gave, and no header after them is refused.
pub record FailsOnWire (run : Run) (packets : List Packet) : Type 0 where
  pub read : List ℕ
  pub split : read ++ run.left ≡ run.input
  pub cut : WireFault (limits run).packet_size (limits run).max_wire read packets InputEnded
  pub failed : FailsToRead run.given

-- A run stopped on the wire, after whole packets: as if the input had only these packets.
pub record StopsOnWire (run : Run) (fault : Fault) (taken : ℕ) : Type 0 where
  pub packets : List Packet
  pub rest : List ℕ
  pub place : ℕ
  pub part : Part
  pub begin : wire_of packets ++ rest ≡ run.input
  pub before : AreBefore (limits run).packet_size packets
  pub within : length (wire_of packets) ≤ (limits run).max_wire
  pub taken_is : taken ≡ length (wire_of packets)
  pub first : ((fault ≡ ReadFailed) × FailsOnWire run packets)
      ⊎ WireFault (limits run).packet_size (limits run).max_wire run.input packets fault
  pub leads : ReadsPart run packets place part
  pub none_refused : (f : Fault) → Refuses run packets place part f → ⊥
  pub written : text_put run ≡ text_so_far part
  pub kept : Keeps run packets place part

-- The text kept is that of a whole response; or the output area was full, and the last packet read was needed to fill it.
abbrev pub IsNeeded : Run → List Packet → Type 0
IsNeeded run packets =
    ((tokens : List Token) × IsAccepted run tokens packets × (text_put run ≡ text tokens))
    ⊎ ((before : List Packet) × (last : Packet) × (place : ℕ) × (earlier : Part)
    × (before ++ last ∷ [] ≡ packets) × ReadsPart run before place earlier
    × (length (text_put run) ≡ 4096 * (length run.gained / 4096 + 1))
    × (length (text_so_far earlier) < length (text_put run)))

-- A run was stopped by the writer.
pub record StopsInText (run : Run) (fault : Fault) (written : ℕ) : Type 0 where
  pub packets : List Packet
  pub place : ℕ
  pub part : Part
  pub more : List ℕ
  pub stands : Packets run packets
  pub leads : ReadsPart run packets place part
  pub fault_is : fault ≡ WriteFailed
  pub written_is : written ≡ length run.gained
  pub begins : text_put run ++ more ≡ text_so_far part
  pub needed : IsNeeded run packets
  pub failed : FailsToWrite run.given
  pub kept : (n : ℕ) × (earlier : Part) × Comes run packets n earlier × Keeps run packets n earlier

-- A run stopped so: in the payload, on the wire or in the text, as the place says.
abbrev pub Stops : Run → Fault → Place → Type 0
Stops run fault (Payload place) = StopsInPayload run fault place
Stops run fault (Wire taken) = StopsOnWire run fault taken
Stops run fault (Text written) = StopsInText run fault written

-- A run stopped, and this is what every stop leaves.
pub record AfterStop (run : Run) (stopped : Stopped) : Type 0 where
  pub stop : Stops run stopped.fault stopped.place
  pub written : stopped.written ≡ length run.gained
  pub unwritten : stopped.unwritten ≡ length (waiting run)
  pub no_notice : run.given.after.areas.notice.bytes ≡ []
  pub none_waits : ¬ FailsToWrite run.given → waiting run ≡ []

-- A run returned a report of a whole response, or a stop.
abbrev pub Outcome : Run → Result Report Stopped → Type 0
Outcome run (Ok report) = Reported run report
Outcome run (Err stopped) = AfterStop run stopped

-- No description passed the span of a COLMETADATA at the front of the input.
pub record Bounded (run : Run) : Type 0 where
  pub packets : List Packet
  pub place : ℕ
  pub part : Part
  pub front : Front (limits run).packet_size (limits run).max_wire run.input packets
  pub leads : ReadsPart run packets place part
  pub description : run.given.after.areas.description.peak ≤ span_so_far part

-- A run returned and left this, and kept the bound on its descriptions.
pub record Answer (run : Run) (result : Result Report Stopped) : Type 0 where
  pub outcome : Outcome run result
  pub bounded : Bounded run

-- The run returns the report of these tokens, and has written their text.
pub record Succeeds (run : Run) (tokens : List Token) (packets : List Packet) (result : Result Report Stopped)
    : Type 0 where
  pub report_is : result ≡ Ok (report_of tokens)
  pub written : run.gained ≡ text tokens
  pub notice : run.given.after.areas.notice.bytes ≡ error_text tokens
  pub stands : Packets run packets

-- If the input begins with an accepted response and neither count of failures rose, the run succeeds.
abbrev pub SucceedsIfAccepted : Run → Result Report Stopped → Type 0
SucceedsIfAccepted run result = (tokens : List Token) (packets : List Packet) → IsAccepted run tokens packets →
    ¬ FailsToRead run.given → ¬ FailsToWrite run.given → Succeeds run tokens packets result
