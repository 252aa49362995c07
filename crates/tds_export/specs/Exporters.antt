-- The run of an export as the contracts of its steps see it.
use Rattle.std.specs.Prelude.{◌≡◌, ◌+◌, ◌<◌, ◌≤◌, ℕ, Bool, true, List, [], ◌++◌, Option, Result, MatchBool, MatchResult, OnOk}
use Rattle.tds_meter.specs.Space.{Space, empty}
use Rattle.tds_packet.specs.declared.fault.Stop.{Stop}
use Rattle.tds_packet.specs.declared.payload.Payload.{Payload}
use Rattle.tds_packet.specs.Payloads.{IsGoing, LeavesPayload, seen}
use Rattle.tds_packet.specs.PayloadView.{PayloadView, Takes, IsOver}
use Rattle.tds_columns.specs.View.{IsDescription}
use Rattle.tds_csv.specs.declared.sink.Sink.{Sink}
use Rattle.tds_csv.specs.Sinks.{SinkView, IsWriting, LeavesSink, held}
use Rattle.tds_values.specs.declared.charset.Charset.{Charset}
use Rattle.tds_export.specs.declared.exporter.Exporter.{Exporter}
use Rattle.tds_export.specs.declared.progress.Progress.{Progress}
use Rattle.tds_export.specs.declared.report.Report.{Report}
use Rattle.tds_export.specs.Lending.{KeepsRooms, Lent, lent}
use Rattle.tds_export.specs.TokenGrammar.{Part, response, response_start}
use Rattle.tds_export.specs.Steps.{CompletesResponse, StepStops, IsHolding, IsNoted, ReadsTokens, RunStops, Tracks, TracksBefore, after_tokens}
use Rattle.tds_export.specs.Tokens.{Token}

-- what a run reads, writes and keeps, at a moment: its payload and the place there, its sink and whether it failed, and its description and notice
-- areas
pub record View : Type 0 where
  pub seen : PayloadView
  pub place : ℕ
  pub held : SinkView
  pub failed : Bool
  pub area : Space
  pub notice : Space

-- the view of a payload, a sink, a description area and a notice area
abbrev pub view : {R W : Type 0} → (R → Option (List ℕ)) → (W → Option (List ℕ)) → Payload R → Sink W → Space → Space → View
view remaining contents payload sink area notice = record {
  seen = seen remaining payload;
  place = payload.place;
  held = held contents sink;
  failed = sink.failed;
  area = area;
  notice = notice;
}

-- the view of a run
abbrev pub view_of : {R W : Type 0} → (R → Option (List ℕ)) → (W → Option (List ℕ)) → Exporter R W → View
view_of remaining contents e = view remaining contents e.payload.now e.sink.now e.description.now e.notice.now

-- A response can be read from here: the payload goes on, the sink takes text, the description area is empty and has room for a column, the token area
-- has room for a body, the notice area is empty, and the small area has its room.
pub record CanBegin {R W : Type 0} (payload : Payload R) (sink : Sink W) (area token notice small : Space) : Type 0 where
  pub going : IsGoing payload
  pub writing : IsWriting sink
  pub room : 10 ≤ area.room
  pub empty : area ≡ empty area.room
  pub token_room : 65535 ≤ token.room
  pub token_peak : token.peak ≤ token.room
  pub notice_room : notice.room ≡ 512
  pub notice_peak : notice.peak ≤ notice.room
  pub none_noted : notice.bytes ≡ []
  pub small_room : 128 ≤ small.room
  pub small_peak : small.peak ≤ small.room

-- the sets, rows, errors, messages and returned values of a report
abbrev pub things_counted : Report → ℕ
things_counted report = report.sets + report.rows + report.errors + report.infos + report.return_values

-- The run goes on: its payload and its sink do, its areas have their rooms, no more sets, rows, notices and returned values are counted than bytes
-- were read, and the columns that are described are in the area.
pub record IsRunning {R W : Type 0} (e : Exporter R W) : Type 0 where
  pub payload : IsGoing e.payload.now
  pub sink : IsWriting e.sink.now
  pub room : 10 ≤ e.description.now.room
  pub token : 65535 ≤ e.token.now.room
  pub token_peak : e.token.now.peak ≤ e.token.now.room
  pub notice : e.notice.now.room ≡ 512
  pub notice_peak : e.notice.now.peak ≤ e.notice.now.room
  pub small : 128 ≤ e.small.now.room
  pub small_peak : e.small.now.peak ≤ e.small.now.room
  pub counted : things_counted e.progress.report ≤ e.payload.now.place
  pub described : e.progress.described ≡ true → IsDescription e.description.now.bytes

-- The run goes on after the first byte of a token that isn't counted yet.
pub record IsInToken {R W : Type 0} (e : Exporter R W) : Type 0 where
  pub running : IsRunning e
  pub uncounted : things_counted e.progress.report < e.payload.now.place

-- Two runs are on the same payload, sink and areas, in the same character set.
abbrev pub IsOnSameRun : {R W : Type 0} → Exporter R W → Exporter R W → Type 0
IsOnSameRun old new =
    (new.payload.ghost_name ≡ old.payload.ghost_name) × (new.sink.ghost_name ≡ old.sink.ghost_name)
    × (new.description.ghost_name ≡ old.description.ghost_name) × (new.token.ghost_name ≡ old.token.ghost_name)
    × (new.notice.ghost_name ≡ old.notice.ghost_name) × (new.small.ghost_name ≡ old.small.ghost_name) × (new.charset ≡ old.charset)

-- the areas that a run is lent
abbrev pub lent_to : {R W : Type 0} → Exporter R W → Lent
lent_to e = lent e.description.now e.token.now e.notice.now e.small.now

-- A call left the run on the same devices and areas, and, if it returned no error, going on and no further back in the payload.
pub record LeavesRun {R W U : Type 0} (old new : Exporter R W) (result : Result U Stop) : Type 0 where
  pub same : IsOnSameRun old new
  pub payload : LeavesPayload old.payload.now new.payload.now result
  pub sink : LeavesSink old.sink.now new.sink.now result
  pub areas : KeepsRooms (lent_to old) (lent_to new)
  pub forward : OnOk result (old.payload.now.place ≤ new.payload.now.place)
  pub running : OnOk result (IsRunning new)

-- Bytes of the payload were read.
abbrev pub Advances : {R W : Type 0} → Exporter R W → Exporter R W → Type 0
Advances old new = old.payload.now.place < new.payload.now.place

-- The next token was read from this state on, after these tokens, and its text put. The notice area has the text of the first error.
abbrev pub ReadsNext : Charset → Part → List Token → View → View → Progress → Type 0
ReadsNext charset from tokens old new progress =
    (x : ReadsTokens (response charset old.area.room) from tokens old.seen new.seen old.place new.place old.held new.held progress new.area)
    × IsNoted new.notice (tokens ++ x.more)

-- The reading from this state on stopped.
abbrev pub StopsIn : Charset → Part → View → View → Stop → Type 0
StopsIn charset from old new stop = StepStops (response charset old.area.room) from old.seen new.seen old.place old.held new.held new.area new.failed
    stop

-- The message is over, and nothing else has changed.
pub record FindsEnd {R W : Type 0} (remaining : R → Option (List ℕ)) (old new : Exporter R W) : Type 0 where
  pub takes : Takes (seen remaining old.payload.now) (seen remaining new.payload.now) [] 1
  pub over : IsOver (seen remaining new.payload.now)
  pub place : new.payload.now.place ≡ old.payload.now.place
  pub sink : new.sink.now ≡ old.sink.now
  pub area : new.description.now ≡ old.description.now
  pub notice : new.notice.now ≡ old.notice.now
  pub progress : new.progress ≡ old.progress

-- A token was read after its first byte, from this state on, and its text put; or that stopped: whatever the tokens before it are.
abbrev pub BodyRead : {R W U : Type 0} → (R → Option (List ℕ)) → (W → Option (List ℕ)) → (List Token → Part) → Exporter R W → Exporter R W
    → Result U Stop → Type 0
BodyRead remaining contents from old new result = (tokens : List Token) → TracksBefore old.progress tokens
    → IsHolding old.description.now (after_tokens tokens) → IsNoted old.notice.now tokens →
    MatchResult result
    (λ _. ReadsNext old.charset (from tokens) tokens (view_of remaining contents old) (view_of remaining contents new) new.progress)
    (λ stop. StopsIn old.charset (from tokens) (view_of remaining contents old) (view_of remaining contents new) stop)

-- A call read a token after its first byte, as above, and left the run on the same devices and areas, going on if it returned no error.
pub record StepRead {R W U : Type 0} (remaining : R → Option (List ℕ)) (contents : W → Option (List ℕ)) (from : List Token
    → Part) (old new : Exporter R W) (result : Result U Stop) : Type 0 where
  pub leaves : LeavesRun old new result
  pub reads : BodyRead remaining contents from old new result

-- The next token was read and its text put, or the message is over; or that stopped: whatever the tokens before it are.
abbrev pub TokenRead : {R W : Type 0} → (R → Option (List ℕ)) → (W → Option (List ℕ)) → Exporter R W → Exporter R W → Result Bool Stop → Type 0
TokenRead remaining contents old new result = (tokens : List Token) → Tracks old.progress tokens → IsHolding old.description.now (after_tokens tokens)
    → IsNoted old.notice.now tokens →
    MatchResult result
    (λ more. MatchBool more (ReadsNext old.charset (after_tokens tokens) tokens (view_of remaining contents old) (view_of remaining contents new)
    new.progress) (FindsEnd remaining old new))
    (λ stop. StopsIn old.charset (after_tokens tokens) (view_of remaining contents old) (view_of remaining contents new) stop)

-- A response was read whole, its text delivered and its report returned; or that stopped.
abbrev pub ResponseRead : Charset → View → View → Result Report Stop → Type 0
ResponseRead charset old new result = MatchResult result
    (λ report. (x : CompletesResponse (response charset old.area.room) response_start old.seen new.seen old.held new.held report new.area)
    × IsNoted new.notice x.whole.tokens)
    (λ stop. RunStops (response charset old.area.room) response_start old.seen new.seen old.place old.held new.held new.area new.failed stop)

-- A run that had read nothing read a response whole, delivered its text and returned its report; or that stopped.
abbrev pub WholeRead : {R W : Type 0} → (R → Option (List ℕ)) → (W → Option (List ℕ)) → Exporter R W → Exporter R W → Result Report Stop → Type 0
WholeRead remaining contents old new result = Tracks old.progress [] → old.description.now ≡ empty old.description.now.room
    → IsNoted old.notice.now [] →
    ResponseRead old.charset (view_of remaining contents old) (view_of remaining contents new) result
