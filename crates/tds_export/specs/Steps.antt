-- What the calls inside an export do.
use Rattle.std.specs.Prelude.{◌≡◌, ◌⊎◌, ◌+◌, ◌≤◌, ℕ, Bool, true, false, List, [], ◌∷◌, ◌++◌, length, Option, Some, None, Result, MatchOption}
use Rattle.std.specs.Prelude.{MatchResult, ⊤}
use Rattle.tds_meter.specs.Space.{Space}
use Rattle.tds_packet.specs.declared.fault.Fault.{Fault}
use Rattle.tds_packet.specs.declared.fault.Fault.TheVariants.{MessageEnded, RefusedToken, RowWithoutColumns}
use Rattle.tds_packet.specs.declared.fault.Stop.{Stop}
use Rattle.tds_packet.specs.Elements.{Grammar, Spelt}
use Rattle.tds_packet.specs.Reading.{StopsReading}
use Rattle.tds_packet.specs.declared.payload.Payload.{Payload}
use Rattle.tds_packet.specs.Payloads.{seen}
use Rattle.tds_packet.specs.PayloadView.{PayloadView, Takes, Ends, IsBetween, IsOver}
use Rattle.tds_columns.specs.Description.{BeforeCount, Column, description_bytes}
use Rattle.tds_columns.specs.View.{columns_of}
use Rattle.tds_csv.specs.Sinks.{SinkView, Finishes, FinishFails}
use Rattle.tds_csv.specs.Streaming.{PutsText, Streams, WritesPrefixStreaming}
use Rattle.tds_values.specs.declared.charset.Charset.{Charset}
use Rattle.tds_cells.specs.Rows.{Bitmap, NbcRow, PlainRow, row_start, token_byte}
use Rattle.tds_export.specs.TokenBytes.{APassed, AnEnvChange, AnError, AnInfo, AnOrder, Bodied, Fixed, AStatus, ADone, ADoneInProc, Lead, AMetadata}
use Rattle.tds_export.specs.TokenBytes.{ARow, AnNbcRow, WithBody, WithFields, AReturn, lead_of}
use Rattle.tds_export.specs.declared.progress.Progress.{Progress}
use Rattle.tds_export.specs.declared.report.Report.{Report}
use Rattle.tds_export.specs.declared.tokens.TokenKind.{TokenKind}
use Rattle.tds_export.specs.declared.tokens.TokenKind.TheVariants as kinds
use Rattle.tds_export.specs.Outcome.{report_of}
use Rattle.tds_export.specs.ReturnValue.{ReturnOrdinal}
use Rattle.tds_export.specs.TokenGrammar.{Between, Describing, Fields, InReturn, Open, Part, TokenLength, text_so_far, span_so_far, with_row}
use Rattle.tds_export.specs.Tokens.{Token, described_after, encoded_after, error_text, is_final, text}

-- Columns are described, and they are those in these bytes; or none are.
abbrev pub IsDescribed : Bool → List ℕ → Option (List Column) → Type 0
IsDescribed false bytes columns = columns ≡ None
IsDescribed true bytes columns = columns ≡ Some (columns_of bytes)

-- the bytes of a description that is open, or of the current one
abbrev pub description_of : List Token → Open → List ℕ
description_of tokens (Describing d) = description_bytes d
description_of tokens at = encoded_after [] tokens

-- The description area has the description that is read here, or the current one, and never had more than the greatest span.
pub record IsHolding (area : Space) (part : Part) : Type 0 where
  pub bytes : area.bytes ≡ description_of part.tokens part.at
  pub peak : area.peak ≤ span_so_far part

-- The notice area has the text of the first error.
abbrev pub IsNoted : Space → List Token → Type 0
IsNoted notice tokens = notice.bytes ≡ error_text tokens

-- between tokens
abbrev pub after_tokens : List Token → Part
after_tokens tokens = record { tokens = tokens; at = Between }

-- What these tokens left is known, the report but for what was written and whether columns are described; and beside it whether the message may end.
pub record Reflects (progress : Progress) (tokens : List Token) (may_end : Bool) : Type 0 where
  pub report : record progress.report { written = length (text tokens) } ≡ report_of tokens
  pub described : IsDescribed progress.described (encoded_after [] tokens) (described_after None tokens)
  pub final : progress.is_final ≡ may_end

-- What comes of these tokens is known: the report but for what was written, whether columns are described, and whether the last token is a final one.
abbrev pub Tracks : Progress → List Token → Type 0
Tracks progress tokens = Reflects progress tokens (is_final tokens)

-- A token has begun after these tokens: what they left is known, and the message may not end yet.
abbrev pub TracksBefore : Progress → List Token → Type 0
TracksBefore progress tokens = Reflects progress tokens false

-- One token or more were read whole, and their text put.
pub record ReadsTokens (g : Grammar Part Fault) (from : Part) (tokens : List Token) (old new : PayloadView) (place place' : ℕ) (before after : SinkView)
    (progress : Progress) (area : Space) : Type 0 where
  pub more : List Token
  pub streams : Streams g text_so_far from old new before after (after_tokens (tokens ++ more))
  pub place_is : place' ≡ place + length streams.bytes
  pub tracks : Tracks progress (tokens ++ more)
  pub holds : IsHolding area (after_tokens (tokens ++ more))

-- what the first byte of a token of this kind begins
abbrev pub lead : TokenKind → Lead
lead kinds.Metadata = AMetadata
lead kinds.Row = ARow
lead kinds.NbcRow = AnNbcRow
lead kinds.Done = WithFields ADone
lead kinds.DoneInProc = WithFields ADoneInProc
lead kinds.ReturnStatus = WithFields AStatus
lead kinds.Order = WithBody (APassed AnOrder)
lead kinds.EnvChange = WithBody (APassed AnEnvChange)
lead kinds.Error = WithBody AnError
lead kinds.Info = WithBody AnInfo
lead kinds.ReturnValue = AReturn

-- Columns are described if a row begins.
abbrev pub IsUnder : Bool → Lead → Type 0
IsUnder described ARow = described ≡ true
IsUnder described AnNbcRow = described ≡ true
IsUnder described begun = ⊤

-- The byte begins a token of this kind, whether columns are described or not.
abbrev pub IsOfKind : Bool → ℕ → TokenKind → Type 0
IsOfKind described byte kind = (lead_of byte ≡ Some (lead kind)) × IsUnder described (lead kind)

-- The byte is refused with this fault.
abbrev pub IsRefusedByte : Bool → ℕ → Fault → Type 0
IsRefusedByte described byte fault =
    ((fault ≡ RefusedToken byte) × (lead_of byte ≡ None))
    ⊎ ((fault ≡ RowWithoutColumns) × (described ≡ false) × ((byte ≡ token_byte PlainRow) ⊎ (byte ≡ token_byte NbcRow)))

-- after the token byte of a COLMETADATA
abbrev pub in_metadata : List Token → Part
in_metadata tokens = record { tokens = tokens; at = Describing BeforeCount }

-- after the token byte of a ROW under these columns
abbrev pub in_row : Charset → List Column → List Token → Part
in_row charset columns tokens = with_row tokens (row_start PlainRow charset columns)

-- after the token byte of an NBCROW under these columns
abbrev pub in_nbc_row : List Column → List Token → Part
in_nbc_row columns tokens = with_row tokens (Bitmap columns)

-- after the token byte of a token with fields of a fixed length
abbrev pub in_fields : Fixed → List Token → Part
in_fields which tokens = record { tokens = tokens; at = Fields which }

-- after the token byte of a DONE or DONEPROC
abbrev pub in_done : List Token → Part
in_done = in_fields ADone

-- after the token byte of a DONEINPROC
abbrev pub in_done_in_proc : List Token → Part
in_done_in_proc = in_fields ADoneInProc

-- after the token byte of a RETURNSTATUS
abbrev pub in_status : List Token → Part
in_status = in_fields AStatus

-- after the token byte of a RETURNVALUE
abbrev pub in_return : List Token → Part
in_return tokens = record { tokens = tokens; at = InReturn ReturnOrdinal }

-- after the token byte of a token with a body
abbrev pub in_length : Bodied → List Token → Part
in_length which tokens = record { tokens = tokens; at = TokenLength which }

-- The token is a ROW or an NBCROW.
abbrev pub IsRow : TokenKind → Type 0
IsRow kinds.Row = ⊤
IsRow kinds.NbcRow = ⊤
IsRow kind = ⊥

-- after the first byte of a token, under these columns
abbrev pub in_lead : Charset → List Column → Lead → List Token → Part
in_lead charset columns AMetadata = in_metadata
in_lead charset columns ARow = in_row charset columns
in_lead charset columns AnNbcRow = in_nbc_row columns
in_lead charset columns (WithBody b) = in_length b
in_lead charset columns (WithFields f) = in_fields f
in_lead charset columns AReturn = in_return

-- after the first byte of a token of this kind, under these columns
abbrev pub in_kind : Charset → List Column → TokenKind → List Token → Part
in_kind charset columns kind = in_lead charset columns (lead kind)

-- A call inside an export stopped in reading: the text of the state that it reached was put.
pub record StopsInReading (g : Grammar Part Fault) (from : Part) (old new : PayloadView) (place : ℕ) (before after : SinkView) (area : Space)
    (stop : Stop) : Type 0 where
  pub at : Part
  pub stops : StopsReading g from old new place at stop
  pub puts : PutsText text_so_far from at before after
  pub holds : IsHolding area at

-- A call inside an export stopped in writing the text of an element.
pub record StopsInWriting (g : Grammar Part Fault) (from : Part) (old new : PayloadView) (before after : SinkView) (area : Space) (stop : Stop) : Type 0 where
  pub at : Part
  pub breaks : WritesPrefixStreaming g text_so_far from old new before after at stop
  pub holds : IsHolding area (g.add at breaks.element)

-- A call inside an export stopped, whether the sink failed or not.
abbrev pub StepStops : Grammar Part Fault → Part → PayloadView → PayloadView → ℕ → SinkView → SinkView → Space → Bool → Stop → Type 0
StepStops g from old new place before after area failed stop =
    (StopsInReading g from old new place before after area stop × (failed ≡ false))
    ⊎ (StopsInWriting g from old new before after area stop × (failed ≡ true))

-- The whole response was read, to the message's end, and its text put.
pub record ReadsWhole (g : Grammar Part Fault) (from : Part) (old new : PayloadView) (before after : SinkView) (area : Space) : Type 0 where
  pub tokens : List Token
  pub bytes : List ℕ
  pub spelt : Spelt g from bytes (after_tokens tokens)
  pub takes : Takes old new bytes (length bytes + 1)
  pub puts : PutsText text_so_far from (after_tokens tokens) before after
  pub over : IsOver new
  pub final : is_final tokens ≡ true
  pub holds : IsHolding area (after_tokens tokens)

-- The whole response was read and all of its text delivered, and this is its report.
pub record CompletesResponse (g : Grammar Part Fault) (from : Part) (old new : PayloadView) (before after : SinkView) (report : Report) (area : Space) : Type 0
  where
    pub middle : SinkView
    pub whole : ReadsWhole g from old new before middle area
    pub finishes : Finishes middle after
    pub report_is : report ≡ record (report_of whole.tokens) { written = after.delivered }

-- The whole response was read, and then the rest of its text couldn't be delivered, or the writer not be flushed.
pub record StopsAtEnd (g : Grammar Part Fault) (from : Part) (old new : PayloadView) (before after : SinkView) (area : Space) (stop : Stop) : Type 0 where
  pub middle : SinkView
  pub whole : ReadsWhole g from old new before middle area
  pub fails : FinishFails middle after stop

-- An export stopped: in a token, at the message's end, or in delivering the rest.
abbrev pub RunStops : Grammar Part Fault → Part → PayloadView → PayloadView → ℕ → SinkView → SinkView → Space → Bool → Stop → Type 0
RunStops g from old new place before after area failed stop =
    StepStops g from old new place before after area failed stop ⊎ (StopsAtEnd g from old new before after area stop × (failed ≡ true))

-- The next byte was read, and no packet is cut after it.
pub record ReadsByte (old new : PayloadView) (place place' byte : ℕ) : Type 0 where
  pub takes : Takes old new (byte ∷ []) 1
  pub place_is : place' ≡ place + 1
  pub between : IsBetween new

-- No byte is left, and the message is over.
pub record ReadsNone (old new : PayloadView) (place place' : ℕ) : Type 0 where
  pub takes : Takes old new [] 1
  pub over : IsOver new
  pub place_is : place' ≡ place

-- The next byte was read, or the message is over; or the payload stopped, otherwise than at the message's end.
abbrev pub ByteRead : {R : Type 0} → (R → Option (List ℕ)) → Payload R → Payload R → Result (Option ℕ) Stop → Type 0
ByteRead remaining old new result = MatchResult result
    (λ next. MatchOption next
    (ReadsNone (seen remaining old) (seen remaining new) old.place new.place)
    (λ byte. ReadsByte (seen remaining old) (seen remaining new) old.place new.place byte))
    (λ stop. Ends (seen remaining old) (seen remaining new) [] stop × (stop.fault ≡ MessageEnded → ⊥))
