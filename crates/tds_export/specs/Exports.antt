-- How an export ended, with a reader and a writer that may not tell their bytes.
use Rattle.std.specs.Prelude.{◌≡◌, ◌⊎◌, ◌-◌, ◌^◌, ◌<◌, Bool, true, false, List, ℕ, [], length, Some, Result, IfErr, MatchResult}
use Rattle.std.specs.Io.KnownBytes.{Appends}
use Rattle.tds_meter.specs.Counts.{Rose}
use Rattle.tds_packet.specs.declared.fault.Fault.TheVariants.{ReadFailed, WriteFailed}
use Rattle.tds_packet.specs.declared.fault.Stop.{Stop}
use Rattle.tds_packet.specs.Elements.{AreBytes}
use Rattle.tds_packet.specs.PayloadView.{PayloadView, begun}
use Rattle.tds_csv.specs.Sinks.{Adds, SinkView, fresh}
use Rattle.tds_values.specs.declared.charset.Charset.{Charset}
use Rattle.tds_export.specs.declared.report.Report.{Report}
use Rattle.tds_export.specs.declared.report.Stopped.{Stopped}
use Rattle.tds_export.specs.Moments.{FailsToRead, FailsToWrite, ExportInput, Moment, given_of, grammar_of, limits_of, run_of}
use Rattle.tds_export.specs.Outcome.{Answer, SucceedsIfAccepted}
use Rattle.tds_export.specs.TokenGrammar.{response_start}
use Rattle.tds_export.specs.Steps.{CompletesResponse, RunStops}
use Rattle.tds_export.specs.Tokens.{error_text}

-- the payload of an export before the first packet
abbrev pub begun_at : ExportInput → PayloadView
begun_at given = let from = given.before.reader in
    begun (limits_of given).packet_size (limits_of given).max_wire from.bytes from.failures

-- the sink of an export before the first byte of text
abbrev pub fresh_at : ExportInput → SinkView
fresh_at given = fresh given.before.writer.bytes given.before.writer.failures

-- The payload is that of the reader.
pub record IsReader (given : ExportInput) (seen : PayloadView) : Type 0 where
  pub left : seen.left ≡ given.after.reader.bytes
  pub failures : seen.failures ≡ given.after.reader.failures

-- The sink is that of the writer.
pub record IsWriter (given : ExportInput) (held : SinkView) : Type 0 where
  pub has : held.had ≡ given.after.writer.bytes
  pub waiting : held.waiting ≡ given.after.areas.output.bytes
  pub failures : held.failures ≡ given.after.writer.failures

-- What waited was delivered and the writer flushed, or one of the two failed. A writer whose count was the greatest took nothing.
abbrev pub FlushedOrFailed : SinkView → SinkView → Type 0
FlushedOrFailed old new = (sent : List ℕ) × Adds old new sent []
    × (((new.waiting ≡ []) × (new.failures ≡ old.failures)) ⊎ Rose old.failures new.failures)
    × (0 < length sent → old.failures < 2 ^ 64 - 1)

-- The response was read whole, its text delivered, and its report returned. The notice area has the text of its first error.
pub record Reports (given : ExportInput) (report : Report) : Type 0 where
  pub seen : PayloadView
  pub held : SinkView
  pub reader : IsReader given seen
  pub writer : IsWriter given held
  pub completes : let area = given.after.areas.description in
      CompletesResponse (grammar_of given) response_start (begun_at given) seen (fresh_at given) held report area
  pub notice : given.after.areas.notice.bytes ≡ error_text completes.whole.tokens

-- the result of an export that stopped and left the sink in this state
abbrev pub stopped_with : Stop → SinkView → Stopped
stopped_with stop held =
    record { fault = stop.fault; place = stop.place; written = held.delivered; unwritten = length held.waiting }

-- The export stopped, and what waited was delivered unless the writer had failed. The notice area is empty.
pub record StopsExport (given : ExportInput) (stopped : Stopped) : Type 0 where
  pub seen : PayloadView
  pub middle : SinkView
  pub held : SinkView
  pub failed : Bool
  pub stop : Stop
  pub reader : IsReader given seen
  pub writer : IsWriter given held
  pub stops : let area = given.after.areas.description in
      RunStops (grammar_of given) response_start (begun_at given) seen 0 (fresh_at given) middle area failed stop
  pub tidied : failed ≡ false → FlushedOrFailed middle held
  pub same : failed ≡ true → held ≡ middle
  pub stopped_is : stopped ≡ stopped_with stop held
  pub notice : given.after.areas.notice.bytes ≡ []

-- A reader that told its bytes still does, a writer that tells its own gained some, and the export returns what the input makes of the response; of
-- an accepted one its report, but for a device that fails.
unfoldable pub Tells : ExportInput → Result Report Stopped → Type 0
Tells given result = (input : List ℕ) → AreBytes input → given.before.reader.bytes ≡ Some input →
    (left : List ℕ) × (gained : List ℕ) × (given.after.reader.bytes ≡ Some left)
    × Appends given.before.writer.bytes given.after.writer.bytes gained
    × Answer (run_of given input left gained) result × SucceedsIfAccepted (run_of given input left gained) result

-- Between two moments an export returned this: it says what was read and written, and a device is blamed only if its count of failures rose.
pub record Exports (charset : Charset) (before after : Moment) (result : Result Report Stopped) : Type 0 where
  pub gives : MatchResult result (Reports (given_of charset before after)) (StopsExport (given_of charset before after))
  pub tells : Tells (given_of charset before after) result
  pub failed_reads : IfErr result (λ stopped. stopped.fault ≡ ReadFailed → FailsToRead (given_of charset before after))
  pub failed_writes : IfErr result (λ stopped. stopped.fault ≡ WriteFailed → FailsToWrite (given_of charset before after))
