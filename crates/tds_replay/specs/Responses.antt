-- The responses of an input that are exported one after another, and what comes of accepted ones.
use Rattle.std.specs.Prelude.{◌≡◌, ◌-◌, ◌^◌, ◌<◌, ◌≤◌, ◌⊎◌, ⊤, ℕ, Bool, true, false, not, ◌==◌, if◌then◌else◌, List, [], ◌∷◌, ◌++◌, flat_map, length}
use Rattle.std.specs.Prelude.{map, Option, None, Some, Result, Ok, Err}
use Rattle.std.specs.List.{list_any}
use Rattle.std.specs.Io.KnownBytes.{Appends, Keeps}
use Rattle.tds_meter.specs.Counts.{one_more}
use Rattle.tds_meter.specs.declared.areas.Areas.{Areas}
use Rattle.tds_meter.specs.declared.limits.Limits.{Limits}
use Rattle.tds_packet.specs.declared.fault.Fault.TheVariants.{ReadFailed}
use Rattle.tds_packet.specs.declared.fault.Place.TheVariants.{Wire}
use Rattle.tds_packet.specs.Elements.{AreBytes}
use Rattle.tds_packet.specs.Filling.{IsAnswered, TellsInputEnd}
use Rattle.tds_packet.specs.Packets.{Message, Packet, payload_of, wire_of}
use Rattle.tds_values.specs.declared.charset.Charset.{Charset}
use Rattle.tds_export.specs.declared.report.Report.{Report}
use Rattle.tds_export.specs.declared.report.Stopped.{Stopped}
use Rattle.tds_export.specs.Outcome.{report_of}
use Rattle.tds_export.specs.Response.{Response}
use Rattle.tds_export.specs.Tokens.{Token, error_text, text}
use Rattle.tds_replay.specs.declared.responses.Ran.{Ran}
use Rattle.tds_replay.specs.declared.status.Status.{Status}
use Rattle.tds_replay.specs.declared.status.Status.TheVariants.{Done, ServerError}
use Rattle.tds_replay.specs.Asking.{AreMade}
use Rattle.tds_replay.specs.Exporting.{Devices, Returns, Standing, Telling}
use Rattle.tds_replay.specs.Lines.{answer_lines, responses_line, stop_line}
use Rattle.tds_replay.specs.Saying.{SaysOrFails}
use Rattle.tds_replay.specs.Statuses.{status_of_fault}

-- Nothing but the reader changed, and none of its bytes was taken.
pub record LooksAhead {R W N : Type 0} (tell : Telling R W N) (old new : Standing R W N) : Type 0 where
  pub bytes : Keeps (tell.remaining old.devices.from.device) (tell.remaining new.devices.from.device)
  pub areas : new.areas ≡ old.areas
  pub writer : new.devices.to ≡ old.devices.to

-- It was seen whether the input is over.
pub record Sees {R W N : Type 0} (tell : Telling R W N) (over : Bool) (old new : Standing R W N) : Type 0 where
  pub looks : LooksAhead tell old new
  pub told : TellsInputEnd (tell.remaining old.devices.from.device) over
  pub counts : new.devices.from.failures ≡ old.devices.from.failures
  pub notes : new.devices.notes ≡ old.devices.notes

-- the stop where a read fails before a response
abbrev pub unread : Stopped
unread = record { fault = ReadFailed; place = Wire 0; written = 0; unwritten = 0 }

-- A read failed in looking, and the line of that was written.
pub record FailsToSee {R W N : Type 0} (tell : Telling R W N) (old new : Standing R W N) : Type 0 where
  pub looks : LooksAhead tell old new
  pub counts : new.devices.from.failures ≡ one_more old.devices.from.failures
  pub line : SaysOrFails tell.said old.devices.notes new.devices.notes (stop_line unread)

-- The input wasn't over, and the export of the next response returned this.
abbrev pub ReturnsNext : {R W N : Type 0} → Telling R W N → Charset → Standing R W N → Standing R W N → Result Report Stopped → Type 0
ReturnsNext {R} {W} {N} tell charset old new answer = (middle : Standing R W N) × Sees tell false old middle × Returns tell charset middle new answer

-- The next response was stopped so, or no response could be begun.
abbrev pub StopsNext : {R W N : Type 0} → Telling R W N → Charset → Standing R W N → Standing R W N → Stopped → Type 0
StopsNext tell charset old new stopped = ReturnsNext tell charset old new (Err stopped) ⊎ (FailsToSee tell old new × (stopped ≡ unread))

-- What came where a response might begin: a report of it, a stop, or the end of the input.
abbrev pub Next : {R W N : Type 0} → Telling R W N → Charset → Standing R W N → Standing R W N → Result (Option Report) Stopped → Type 0
Next tell charset old new (Ok None) = Sees tell true old new
Next tell charset old new (Ok (Some report)) = ReturnsNext tell charset old new (Ok report)
Next tell charset old new (Err stopped) = StopsNext tell charset old new stopped

-- Responses gave these reports, each begun where the one before ended.
abbrev pub Reports : {R W N : Type 0} → Telling R W N → Charset → Standing R W N → List Report → Standing R W N → Type 0
Reports tell charset old [] new = new ≡ old
Reports {R} {W} {N} tell charset old (report ∷ reports) new =
    (middle : Standing R W N) × ReturnsNext tell charset old middle (Ok report) × Reports tell charset middle reports new

-- After this number of reports the input was over, or no more can be counted; or the next response stopped.
abbrev pub EndsAfter : {R W N : Type 0} → Telling R W N → Charset → ℕ → Option Stopped → Standing R W N → Standing R W N → Type 0
EndsAfter tell charset n None old new = Sees tell true old new ⊎ ((n ≡ 2 ^ 64 - 1) × (new ≡ old))
EndsAfter tell charset n (Some stopped) old new = StopsNext tell charset old new stopped

-- the server reported an error
abbrev pub has_error : Report → Bool
has_error report = not (report.errors == 0)

-- how a run over responses ends: by its stop, or else by the errors that the server reported
abbrev pub status_of_all : List Report → Option Stopped → Status
status_of_all reports (Some stopped) = status_of_fault stopped.fault
status_of_all reports None = if list_any has_error reports then ServerError else Done

-- Responses were exported one after another until the input was over or one stopped.
pub record Runs {R W N : Type 0} (tell : Telling R W N) (charset : Charset) (old new : Standing R W N) (reports : List Report) (stop : Option Stopped)
    : Type 0 where
  pub middle : Standing R W N
  pub reported : Reports tell charset old reports middle
  pub ends : EndsAfter tell charset (length reports) stop middle new
  pub counted : length reports ≤ 2 ^ 64 - 1

-- The same, and this many were read whole, and this is how the command ends.
abbrev pub RunsTo : {R W N : Type 0} → Telling R W N → Charset → Standing R W N → Standing R W N → Ran → Type 0
RunsTo tell charset old new ran = (reports : List Report) × (stop : Option Stopped) × Runs tell charset old new reports stop
    × (ran.responses ≡ length reports) × (ran.status ≡ status_of_all reports stop)

-- The same, and the last line counts the responses that were read whole.
pub record RunsAll {R W N : Type 0} (tell : Telling R W N) (charset : Charset) (old new : Standing R W N) (status : Status) : Type 0 where
  pub reports : List Report
  pub stop : Option Stopped
  pub middle : Standing R W N
  pub runs : Runs tell charset old middle reports stop
  pub status_is : status ≡ status_of_all reports stop
  pub areas : new.areas ≡ middle.areas
  pub reader : new.devices.from ≡ middle.devices.from
  pub writer : new.devices.to ≡ middle.devices.to
  pub line : SaysOrFails tell.said middle.devices.notes new.devices.notes (responses_line (length reports))

-- All responses were exported over areas made for these limits.
pub record ExportsAll {R W N : Type 0} (tell : Telling R W N) (charset : Charset) (limits : Limits) (before after : Devices R W N) (status : Status)
    : Type 0 where
  pub areas : Areas
  pub left : Areas
  pub made : AreMade limits areas
  pub runs : RunsAll tell charset (record { areas = areas; devices = before }) (record { areas = left; devices = after }) status

-- a response that a server sent: its tokens, and its packets
pub record Sent : Type 0 where
  pub tokens : List Token
  pub packets : List Packet

-- It is accepted within these limits.
pub record IsAccepted (charset : Charset) (limits : Limits) (sent : Sent) : Type 0 where
  pub message : Message limits.packet_size limits.max_wire sent.packets (wire_of sent.packets)
  pub response : Response charset limits.column_room sent.tokens (payload_of sent.packets)

-- Each of them is.
abbrev pub AreAccepted : Charset → Limits → List Sent → Type 0
AreAccepted charset limits [] = ⊤
AreAccepted charset limits (sent ∷ sents) = IsAccepted charset limits sent × AreAccepted charset limits sents

-- the report of a response
abbrev pub report_on : Sent → Report
report_on sent = report_of sent.tokens

-- the bytes of responses, their texts, and the lines of their reports, each one after another
abbrev pub wires_of : List Sent → List ℕ
wires_of = flat_map (λ sent. wire_of sent.packets)

abbrev pub texts_of : List Sent → List ℕ
texts_of = flat_map (λ sent. text sent.tokens)

abbrev pub lines_of : List Sent → List ℕ
lines_of = flat_map (λ sent. answer_lines (Ok (report_on sent)) (error_text sent.tokens))

-- The reader is at its end, and has given these responses: their texts are written, their lines and their number.
pub record Delivers {R W N : Type 0} (tell : Telling R W N) (before after : Devices R W N) (status : Status) (sents : List Sent) : Type 0 where
  pub left : tell.remaining after.from.device ≡ Some []
  pub texts : Appends (tell.contents before.to.device) (tell.contents after.to.device) (texts_of sents)
  pub lines : Appends (tell.said before.notes.device) (tell.said after.notes.device) (lines_of sents ++ responses_line (length sents))
  pub status_is : status ≡ status_of_all (map report_on sents) None

-- No device failed: no count of failures rose, and none was the greatest.
pub record NoneFails {R W N : Type 0} (before after : Devices R W N) : Type 0 where
  pub reader : IsAnswered before.from.failures after.from.failures
  pub writer : IsAnswered before.to.failures after.to.failures
  pub notes : IsAnswered before.notes.failures after.notes.failures

-- If the input is accepted responses, one after another, and no device fails, all of them are delivered.
abbrev pub DeliversAccepted : {R W N : Type 0} → Telling R W N → Charset → Limits → Devices R W N → Devices R W N → Status → Type 0
DeliversAccepted tell charset limits before after status = (sents : List Sent) → AreAccepted charset limits sents → AreBytes (wires_of sents)
    → tell.remaining before.from.device ≡ Some (wires_of sents) → length sents < 2 ^ 64 → NoneFails before after
    → Delivers tell before after status sents
