-- What the parts of reading a long value do: its lengths, the pieces of its content, and its end.
use Rattle.std.specs.Prelude.{◌≡◌, ◌⊎◌, ◌==◌, ◌%◌, ◌^◌, ℕ, ◌+◌, ◌-◌, ◌<◌, ◌≤◌, Bool, true, false, List, [], ◌∷◌, ◌++◌, length, Option}
use Rattle.std.specs.Prelude.{Some, None, Result, MatchResult, if◌then◌else◌}
use Rattle.tds_values.specs.Numbers.{little}
use Rattle.tds_packet.specs.declared.fault.Fault.{Fault}
use Rattle.tds_packet.specs.declared.fault.Fault.TheVariants.{BadText, OddText, PlpLength}
use Rattle.tds_packet.specs.declared.fault.Place.TheVariants.{Payload}
use Rattle.tds_packet.specs.declared.fault.Stop.{Stop}
use Rattle.tds_packet.specs.declared.payload.Payload as payloads
use Rattle.tds_packet.specs.Payloads.{LeavesPayload, seen}
use Rattle.tds_packet.specs.PayloadView.{PayloadView, Takes, Ends, IsBetween, began_at}
use Rattle.tds_text.specs.Conversion.{BeginsData, Conversion, IsFit, closing, conversion_rest, conversion_text}
use Rattle.tds_text.specs.Joining.{emit}
use Rattle.tds_csv.specs.declared.joiners.JoinFault.{JoinFault}
use Rattle.tds_csv.specs.declared.joiners.JoinFault.TheVariants.{Stopped}
use Rattle.tds_csv.specs.declared.joiners.JoinFault.TheVariants as join_faults
use Rattle.tds_text.specs.Quoting.{binary_mark, end_after, quote}
use Rattle.tds_csv.specs.declared.sink.Sink.{Sink}
use Rattle.tds_csv.specs.Sinks.{WritesPrefix, SinkView, Puts, held}
use Rattle.tds_cells.specs.Cells.{is_total, unless, within_total}

-- what comes before the text of a long value
abbrev pub opening : Bool → List ℕ
opening true = quote ∷ []
opening false = binary_mark

-- ---- lengths

-- A length or total of this many bytes was read, and this is its number.
pub record ReadsNumber (size : ℕ) (old new : PayloadView) (place place' n : ℕ) : Type 0 where
  pub element : List ℕ
  pub whole : length element ≡ size
  pub number : little element ≡ n
  pub takes : Takes old new element (length element)
  pub between : IsBetween new
  pub place_is : place' ≡ place + size

-- The payload stopped before it handed out this number of bytes.
pub record CutsBytes (size : ℕ) (old new : PayloadView) (place : ℕ) (stop : Stop) : Type 0 where
  pub part : List ℕ
  pub own : Stop
  pub fewer : length part < size
  pub ends : Ends old new part own
  pub stop_is : stop ≡ began_at place own

-- It was read, and is refused with this fault.
pub record RefusesNumber (size : ℕ) (fault : ℕ → Option Fault) (old new : PayloadView) (place : ℕ) (stop : Stop) : Type 0 where
  pub n : ℕ
  pub place' : ℕ
  pub reads : ReadsNumber size old new place place' n
  pub first : fault n ≡ Some stop.fault
  pub stands : stop.place ≡ Payload place

-- A length of this many bytes without such a fault was read, and this is what it means; or it is refused, or the payload stopped in it.
pub record LengthTaken {R A : Type 0} (remaining : R → Option (List ℕ)) (size : ℕ) (fault : ℕ → Option Fault) (says : ℕ → A)
    (old new : payloads.Payload R) (result : Result A Stop) : Type 0 where
  pub payload : LeavesPayload old new result
  pub length : MatchResult result
      (λ answer. (n : ℕ) × ReadsNumber size (seen remaining old) (seen remaining new) old.place new.place n × (fault n ≡ None) × (answer ≡ says n))
      (λ stop. RefusesNumber size fault (seen remaining old) (seen remaining new) old.place stop
      ⊎ CutsBytes size (seen remaining old) (seen remaining new) old.place stop)

-- the fault of a terminator after this many bytes of content, but for what the content itself has
abbrev pub end_fault : ℕ → ℕ → Option ℕ → ℕ → Option Fault
end_fault column size total sum = if is_total total sum then unless (sum % size == 0) (OddText column) else Some (PlpLength column)

-- the fault of the length of a chunk after this many bytes of content, 0 being the terminator
abbrev pub chunk_length_fault : ℕ → ℕ → Option ℕ → ℕ → ℕ → Option Fault
chunk_length_fault column size total sum n =
    if n == 0 then end_fault column size total sum else unless (within_total total (sum + n)) (PlpLength column)

-- ---- content

-- the text that some content adds after other content
abbrev pub added_text : Conversion → List ℕ → List ℕ → List ℕ
added_text c content more = emit (conversion_rest c) (conversion_text c) (conversion_rest c content ++ more)

-- This number of bytes after this content was read in a piece, and their text put; what is withheld then is the rest of all of it.
pub record TakesData (c : Conversion) (content kept : List ℕ) (old new : PayloadView) (place place' : ℕ) (before after : SinkView) (n : ℕ) : Type 0 where
  pub piece : List ℕ
  pub counted : length piece ≡ n
  pub some : 0 < n
  pub takes : Takes old new piece 1
  pub between : IsBetween new
  pub place_is : place' ≡ place + n
  pub begun : BeginsData c (content ++ piece)
  pub puts : Puts before after (added_text c content piece)
  pub kept_is : kept ≡ conversion_rest c (content ++ piece)

-- A piece was read; its first bytes and their text are good, and the next one is bad.
pub record RefusesData (c : Conversion) (content : List ℕ) (column most : ℕ) (old new : PayloadView) (place : ℕ) (before after : SinkView)
    (stop : Stop) : Type 0
  where
    pub good : List ℕ
    pub bad : ℕ
    pub ahead : List ℕ
    pub within : length good < most
    pub takes : Takes old new (good ++ bad ∷ ahead) 1
    pub between : IsBetween new
    pub begun : BeginsData c (content ++ good)
    pub no_text : ¬ (BeginsData c ((content ++ good) ++ bad ∷ []))
    pub puts : Puts before after (added_text c content good)
    pub stop_is : stop ≡ record { fault = BadText column; place = Payload (place + length good) }

-- A piece was read, and a write of the text of its first bytes failed.
pub record WritesPrefixOfData (c : Conversion) (content : List ℕ) (most : ℕ) (old new : PayloadView) (before after : SinkView) (stop : Stop) : Type 0 where
  pub good : List ℕ
  pub ahead : List ℕ
  pub within : length good ≤ most
  pub takes : Takes old new (good ++ ahead) 1
  pub between : IsBetween new
  pub begun : BeginsData c (content ++ good)
  pub breaks : WritesPrefix before after (added_text c content good) stop

-- The next piece of the content stopped, of at most this many bytes: before its first one, at one that is refused, or in writing.
abbrev pub StopsData : Conversion → List ℕ → ℕ → ℕ → PayloadView → PayloadView → ℕ → SinkView → SinkView → Bool → Stop → Type 0
StopsData c content column most old new place before after failed stop =
    (CutsBytes 1 old new place stop × (after ≡ before) × (failed ≡ false))
    ⊎ ((RefusesData c content column most old new place before after stop × (failed ≡ false))
    ⊎ (WritesPrefixOfData c content most old new before after stop × (failed ≡ true)))

-- The next piece of the content was read and its text put, or that stopped.
abbrev pub PieceTaken : {R W : Type 0} → (R → Option (List ℕ)) → (W → Option (List ℕ)) → Conversion → List ℕ → List ℕ → ℕ → ℕ → payloads.Payload R
    → payloads.Payload R → Sink W → Sink W → Result ℕ Stop → Type 0
PieceTaken remaining contents c content kept column most old new before after result = MatchResult result
    (λ n. TakesData c content kept (seen remaining old) (seen remaining new) old.place new.place (held contents before) (held contents after) n)
    (λ stop. StopsData c content column most (seen remaining old) (seen remaining new) old.place (held contents before) (held contents after)
    after.failed stop)

-- Bytes after this content were read piece by piece, and their text put.
pub record FillsData (c : Conversion) (content : List ℕ) (old new : PayloadView) (place place' : ℕ) (before after : SinkView) (more : List ℕ) : Type 0 where
  pub takes : Takes old new more (length more)
  pub between : IsBetween new
  pub place_is : place' ≡ place + length more
  pub begun : BeginsData c (content ++ more)
  pub puts : Puts before after (added_text c content more)
  pub few : length after.waiting < 4096
  pub delivered : after.delivered ≤ 2 ^ 64 - 1

-- Bytes were read so, and then a last piece.
pub record EndsData (c : Conversion) (content kept : List ℕ) (old new : PayloadView) (place place' : ℕ) (before after : SinkView) (n : ℕ) : Type 0 where
  pub front : List ℕ
  pub middle : PayloadView
  pub there : ℕ
  pub between : SinkView
  pub fills : FillsData c content old middle place there before between front
  pub last : ℕ
  pub takes : TakesData c (content ++ front) kept middle new there place' between after last
  pub counted : length front + last ≡ n

-- Bytes were read so, fewer than all, and then a piece stopped.
pub record StopsFilling (c : Conversion) (content : List ℕ) (column n : ℕ) (old new : PayloadView) (place : ℕ) (before after : SinkView) (failed : Bool)
    (stop : Stop) : Type 0 where
  pub front : List ℕ
  pub middle : PayloadView
  pub there : ℕ
  pub between : SinkView
  pub fewer : length front < n
  pub fills : FillsData c content old middle place there before between front
  pub stops : StopsData c (content ++ front) column (n - length front) middle new there between after failed stop

-- The content of this many bytes, one at least, was read and its text put, or that stopped.
abbrev pub DataTaken : {R W U : Type 0} → (R → Option (List ℕ)) → (W → Option (List ℕ)) → Conversion → List ℕ → List ℕ → ℕ → ℕ → payloads.Payload R
    → payloads.Payload R → Sink W → Sink W → Result U Stop → Type 0
DataTaken remaining contents c content kept column n old new before after result = MatchResult result
    (λ _. EndsData c content kept (seen remaining old) (seen remaining new) old.place new.place (held contents before) (held contents after) n)
    (λ stop. StopsFilling c content column n (seen remaining old) (seen remaining new) old.place (held contents before) (held contents after)
    after.failed stop)

-- how many bytes are good before a fault of a joiner
abbrev pub good_of : JoinFault → ℕ
good_of (join_faults.BadText k) = k
good_of fault = 0

-- the stop of a fault of a joiner whose piece, or whose end, comes after this number of bytes
abbrev pub join_stop : ℕ → ℕ → JoinFault → Stop
join_stop column place (Stopped stop) = stop
join_stop column place fault = record { fault = BadText column; place = Payload (place + good_of fault) }

-- ---- the end

-- what the end of this content adds to its line
abbrev pub ending : Conversion → Bool → Bool → List ℕ → List ℕ
ending c quoted last content = conversion_text c (conversion_rest c content) ++ (closing quoted ++ end_after last)

-- The content is whole and its end was put, or a write of that failed; or it isn't whole, and nothing was put.
abbrev pub EndPut : {W U : Type 0} → (W → Option (List ℕ)) → Conversion → Bool → Bool → List ℕ → ℕ → ℕ → Sink W → Sink W → Result U Stop → Type 0
EndPut contents c quoted last content column place before after result = MatchResult result
    (λ _. IsFit c content × Puts (held contents before) (held contents after) (ending c quoted last content))
    (λ stop. (IsFit c content × WritesPrefix (held contents before) (held contents after) (ending c quoted last content) stop × (after.failed ≡ true))
    ⊎ ((¬ (IsFit c content)) × (held contents after ≡ held contents before) × (stop ≡ record { fault = BadText column; place = Payload place })
    × (after.failed ≡ false)))
