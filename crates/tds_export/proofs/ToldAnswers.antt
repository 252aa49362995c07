-- What an export answers, where its reader and writer tell their bytes.
use Rattle.tds_export.proofs as N
use N.{List, Run, Some, Stop, [], ap, arith, grammar, inl, inr, length, text, ℕ, ◌++◌, ◌<◌, ◌∙◌, ◌≡◌, limits, ◌+◌, Fault, Packet, Spelt, Token, wire}
use N.{wire_of, ◌-◌, ◌==◌, ◌⊎◌, ◌∷◌, ◌≤◌, Part, AreBytes, Bool, ExportInput, SinkView, IsWriter, Ok, Puts, PayloadView, append-nil, drop, fresh_at}
use N.{length-append, payload_of, refl, response, response_start, run_of, sym, take, text_put, text_so_far, ◌*◌, ◌/◌}
use N.DeviceFaults.{no_failure}
use N.ReadingGrows.{text_along}
use N.ResponseLaws.{one_accepted, refused_response, response_is_read, spelt_both}
use N.ResponseMeaning.{response_is_spelt}
use N.SomeBytes.{AreBytes-append}
use N.TextBound.{bounded_along}
use N.Words.{Told, Tells}
use native.Mathlib.Decide.{dec_le}

-- ---- how an export ended, by the packets of its input

-- what the area holds at a part is kept, whatever follows
kept_at : (area : N.Space) (tokens : List Token) (at : N.Open) (rest : List ℕ) → area.bytes ≡ N.description_of tokens at
    → N.IsKept area.bytes tokens at rest
kept_at _ _ (N.Describing d) rest e = (rest, cc)
kept_at _ _ at _ e = e

-- the reader's side of a run that began at the front of its input
pub record ReaderSide (run : Run) (q : PayloadView) : Type 0 where
  pub bytes : AreBytes run.input
  pub left : q.left ≡ Some run.left
  pub failures : q.failures ≡ run.given.after.reader.failures

abbrev pub start : Run → PayloadView
start run = N.begun (limits run).packet_size (limits run).max_wire (Some run.input) run.given.before.reader.failures

module _ (run : Run) {q : PayloadView} {part : Part} {bytes : List ℕ} (side : ReaderSide run q) (spelt : Spelt (grammar run) response_start bytes part)
    (holds : N.IsHolding run.given.after.areas.description part) (text : text_put run ≡ text_so_far part) where
  -- what the area holds is kept
  kept : (packets : List Packet) → N.Keeps run packets (length bytes) part
  kept = grind (arith, kept_at)

  -- an element was refused
  refused_in_payload : {fault : Fault} → N.RefusesNext (grammar run) (start run) q bytes part fault → N.StopsInPayload run fault (length bytes)
  refused_in_payload {fault} x =
      let g = grammar run in
      let e = x.element in
      let b = N.takes_begins _ _ _ _ _ q _ _ side.bytes side.left x.takes x.between in
      let payload : payload_of b.packets ≡ bytes ++ (e ++ (x.ahead ++ (q.future []).bytes)) = grind (arith, N.append_assoc) in
      let refused : N.IsRefused g part (e ++ (x.ahead ++ (q.future []).bytes)) fault = grind (arith, length-append, N.take-append_seam) in
      let last = N.in_last _ _ _ _ _ _ q _ _ side.left x.takes b (grind (arith, length-append)) in
      record {
        packets = b.packets;
        part = part;
        stands = grind arith;
        leads = rw payload (N.longest_refused g _ _ _ _ _ spelt refused);
        first = grind (arith, N.drop-append_seam, length-append);
        written = text;
        kept = kept b.packets;
      }

  module _ (cut : List ℕ) (short : length cut < (grammar run).size part) where
    -- the message ended
    ended_in_payload : {own : Stop} {fault : Fault}
        → N.EndsMessage (limits run).packet_size (limits run).max_wire run.input run.left (bytes ++ cut) run.given.before.reader.failures q.failures own
        → (grammar run).end_fault part ≡ Some fault → N.StopsInPayload run fault (length bytes)
    ended_in_payload m end = record {
      packets = m.packets;
      part = part;
      stands = grind arith;
      leads = rw m.payload_is (N.longest_cut _ _ _ _ _ spelt short);
      first = grind (arith, N.drop-append_seam);
      written = text;
      kept = kept m.packets;
    }

    -- the payload stopped on the wire
    stopped_on_wire : {stop : Stop} → (x : N.StopsAfterPackets (limits run).packet_size (limits run).max_wire run.input run.left (bytes ++ cut)
        run.given.before.reader.failures q.failures stop) → N.StopsOnWire run stop.fault (length (wire_of x.packets))
    stopped_on_wire x =
        record {
          packets = x.packets;
          rest = x.more;
          place = length bytes;
          part = part;
          begin = x.begin;
          before = x.each;
          within = x.within;
          taken_is = refl;
          first = grind arith;
          leads = rw x.payload_is (N.longest_cut (grammar run) _ bytes cut part spelt short);
          none_refused = grind (arith, N.drop-append_seam);
          written = text;
          kept = kept x.packets;
        }

  -- the payload stopped before the next element was whole
  cut_stops : {stop : Stop} → N.CutsNext (grammar run) (start run) q bytes 0 part stop → N.Stops run stop.fault stop.place
  cut_stops c = elim (N.ends_front _ _ _ _ _ q _ _ side.bytes side.left c.ends) [
    | inl m ↦ elim c.stop_is [
      | inl e ↦ rw (e.1.2, N.zero-add) (ended_in_payload _ c.cut m e.1.1)
      | inr e ↦ absurd (e.0 (cc))
    ]
    | inr x ↦ elim c.stop_is [
      | inl e ↦ grind arith
      | inr e ↦ rw e.1 (grind (arith, stopped_on_wire))
    ]
  ]

-- how a run that read stops
reading_stops : {run : Run} {q : PayloadView} {at : Part} {stop : Stop} → ReaderSide run q
    → N.StopsReading (grammar run) response_start (start run) q 0 at stop → N.IsHolding run.given.after.areas.description at
    → text_put run ≡ text_so_far at → N.Stops run stop.fault stop.place
reading_stops side s holds text = elim s.cause [
  | inl r ↦ rw (r.1, N.zero-add) (refused_in_payload _ side s.spelt holds text r.0)
  | inr c ↦ cut_stops _ side s.spelt holds text c
]

-- ---- packets at the front of a message

-- a list of packets begins with another
abbrev BeginsWith : List Packet → List Packet → Type 0
BeginsWith packets front = (tail : List Packet) × (front ++ tail ≡ packets)

begins_more : (front : List Packet) {packets : List Packet} (p : Packet) → BeginsWith packets front → BeginsWith (packets ++ p ∷ []) front
begins_more _ p h = (h.0 ++ p ∷ [], cc (N.append_assoc _ h.0 _))

begins_added : (front : List Packet) {packets : List Packet} (place : N.WirePlace) (element : List ℕ) → BeginsWith packets front
    → BeginsWith (N.wire_add packets place element).packets front
begins_added front {packets} N.BeforeHeader element h = N.choose (λ w. BeginsWith w.packets front) (N.header_length element == 8) (N.with_packet packets _)
    (record { packets = packets; place = N.BeforeBody element }) (λ z. begins_more front _ h) (λ z. h)
begins_added _ (N.BeforeBody header) _ h = begins_more _ _ h
begins_added _ N.AfterLast _ h = h

-- what follows whole elements leads from where they lead
rest_leads : {S : Type 0} {g : N.Grammar S N.Fault} {s t u : S} {a b : List ℕ} → Spelt g s a t → Spelt g s (a ++ b) u → Spelt g t b u
unfolding Told
rest_leads = grind (arith, append-nil, N.feed-Spelt, N.feed_all-append, N.told)

-- what follows such bytes, up to the longest part
pub further : {S : Type 0} (g : N.Grammar S N.Fault) (from to last : S) (bytes more : List ℕ) (place : ℕ) → Spelt g from bytes to
    → N.Longest g from (bytes ++ more) place last → (rest : List ℕ) × Spelt g to rest last
further g from to last bytes more place h l =
    let least = l.longest (length bytes) to (grind (arith, length-append)) (rw N.take-append_seam h) in
    let n = place - length bytes in
    let sum : length bytes + n ≡ place = omega arith in
    (take n more, rest_leads h (grind (arith, N.take-append-add)))

-- whole packets at the front of an input begin those that are read of it at most
front_begins : (size : ℕ) {limit : ℕ} {input : List ℕ} (rest : List ℕ) (packets : List Packet) {w : N.WirePart} {taken : ℕ}
    → wire_of packets ++ rest ≡ input
    → N.AreMessage size packets ⊎ N.AreBefore size packets → length (wire_of packets) ≤ limit → N.Longest (wire size limit) N.no_wire input taken w
    → BeginsWith w.packets packets
front_begins size {limit} _ packets {w} begin each within l =
    let read : (place : N.WirePlace) × Spelt (wire size limit) N.no_wire (wire_of packets) (record { packets = packets; place = place }) =
    grind (arith, N.message_is_read size limit [] packets, N.before_are_read size limit [] packets) in
    N.Spelt-induct _ (λ v b. BeginsWith v.packets packets) (grind (arith, begins_added)) _ ([], append-nil packets) _ w
    (further _ _ _ w _ _ _ read.1 (rw (← begin) at l)).1

-- a message is what is read at most of an input that begins with it
module _ {size limit : ℕ} {input wires : List ℕ} (unread : List ℕ) {packets : List Packet} (m : N.Message size limit packets wires)
    (e : input ≡ wires ++ unread) where
  message_longest : (taken : ℕ) × N.Longest (wire size limit) N.no_wire input taken (N.after_last size limit packets)
  unfolding Told
  message_longest =
      let g = wire size limit in
      let r = N.read_longest g _ _ (N.Reading _ unread) (rw (N.read_to_end _ _ _ wires _ m) at (N.told g N.no_wire (wires ++ unread))) in
      rw e (length r.0, r.2)

-- ---- no stop of an accepted response is one of the input

-- no run of an accepted response stops but by a device
none_stops : (run : Run) (fault : Fault) (place : N.Place) → N.Stops run fault place → (tokens : List Token) (packets : List Packet)
    → N.IsAccepted run tokens packets → (N.FailsToRead run.given → ⊥) → (N.FailsToWrite run.given → ⊥) → ⊥
none_stops run _ (N.Payload place) x tokens _ a reads writes =
    let g = grammar run in
    let payload = payload_of x.packets in
    elim x.first [
      | inl r ↦ (let begins = front_begins _ _ _ x.stands.begin x.stands.each x.stands.within (message_longest _ a.message a.begins).1 in
          let more = payload_of begins.0 in
          let n = place + g.size x.part in
          refused_response _ _ _ _ _ _ _ _ x.leads r.0 (rw (ap payload_of (sym begins.1) ∙ N.flat_map-append _ x.packets begins.0
          ∙ ap (λ v. v ++ more) (sym (N.take-append-drop n payload)) ∙ N.append_assoc (take n payload) (drop n payload) more) at a.response))
      | inr r ↦ (let all : N.Response run.given.charset (limits run).column_room tokens payload = rw (N.one_message _ _ _ _ _ _ _ _
          (record { spelt = refl; each = r.0; within = x.stands.within }) a.message (x.stands.begin ∙ a.begins)) a.response in
          let longest = N.longest_cut g _ _ [] _ (response_is_read _ _ all) (omega arith) in
          let same = (N.one_longest g _ _ _ _ _ _ x.leads (rw append-nil at longest)).1 in
          grind arith)
    ]
none_stops _ _ (N.Wire taken) x _ _ a reads writes = elim x.first [
  | inl r ↦ reads r.1.failed
  | inr r ↦ (let same = (N.one_longest _ _ _ _ _ _ _ r.longest (message_longest _ a.message a.begins).1).1 in grind arith)
]
none_stops run fault (N.Text written) x tokens packets a reads writes = writes x.failed

-- an answer that is true of an accepted response is its report
outcome_succeeds : {run : Run} (result : N.Result N.Report N.Stopped) → N.Outcome run result → N.SucceedsIfAccepted run result
outcome_succeeds (Ok report) r = λ tokens packets accepted reads writes. let same = one_accepted _ _ _ _ _ _ _ _ _ accepted r.accepted in
    grind arith
outcome_succeeds (N.Err stopped) r = λ _ _ a reads writes. absurd (none_stops _ _ _ r.stop _ _ a reads writes)

-- ---- how much of a description was held in an export: no more than the span of one at the front of the input

-- a part of a response was read from whole packets at the front of an input
pub record Reached (run : Run) (at : Part) : Type 0 where
  pub rest : List ℕ
  pub bytes : List ℕ
  pub more : List ℕ
  pub begins : N.BeginsMessage (limits run).packet_size (limits run).max_wire run.input rest (bytes ++ more)
  pub spelt : Spelt (grammar run) response_start bytes at

bounded : {run : Run} {at : Part} → AreBytes run.input → Reached run at → run.given.after.areas.description.peak ≤ N.span_so_far at → N.Bounded run
bounded {run} {at} are r peak =
    let size = (limits run).packet_size in
    let g = grammar run in
    let l = N.some_longest (wire size ((limits run).max_wire)) N.no_wire run.input in
    let b = front_begins size r.rest _ r.begins.begin r.begins.each r.begins.within l.2 in
    let split : payload_of l.1.packets ≡ r.bytes ++ (r.more ++ payload_of b.0) = grind (arith, N.flat_map-append, N.append_assoc) in
    let longest = N.some_longest g _ _ in
    let f = further g _ at longest.1 r.bytes (r.more ++ payload_of b.0) longest.0 r.spelt (grind arith) in
    let least = N.ReadingGrows.span_along _ _ f.1 in
    record { packets = l.1.packets; place = longest.0; part = longest.1; front = N.read_front _ _ _ _ _ are l.2; leads = longest.2; description = omega arith }

-- where a run stopped in reading
reached_stopped : {run : Run} {q : PayloadView} {at : Part} {stop : Stop} → ReaderSide run q
    → N.StopsReading (grammar run) response_start (start run) q 0 at stop → Reached run at
reached_stopped {run} {q} side s = elim s.cause [
  | inl r ↦ (let b = N.takes_begins _ _ _ _ _ q _ _ side.bytes side.left r.0.takes r.0.between in grind (arith, N.append_assoc))
  | inr c ↦ elim (N.ends_front _ _ _ _ _ q _ _ side.bytes side.left c.ends) [
    | inl m ↦ grind arith
    | inr x ↦ grind arith
  ]
]

-- ---- the text

known_left : (input read : List ℕ) {new : N.Option (List ℕ)} → N.Consumes (Some input) new read → (left : List ℕ) × (new ≡ Some left)
known_left = grind arith

-- the writer gained the first bytes of a text, and the others wait
record Delivers (given : ExportInput) (l : SinkView) (text : List ℕ) : Type 0 where
  gained : List ℕ
  has : N.Appends given.before.writer.bytes given.after.writer.bytes gained
  all : gained ++ given.after.areas.output.bytes ≡ text
  delivered : l.delivered ≡ N.counted 0 (length gained)

abbrev sends : {given : ExportInput} (middle : SinkView) {l : SinkView} {put : List ℕ} (piece sent : List ℕ) → IsWriter given l
    → Puts (fresh_at given) middle put → N.Adds middle l sent piece → Delivers given l (put ++ piece)
sends {given} middle {l} {put} piece sent writer p a =
    let adds = N.Adds-trans (fresh_at given) middle l p.0 sent put piece p.2 a in
    record { gained = p.0 ++ sent; has = rw writer.has at adds.0; all = cc (adds.1, writer.waiting); delivered = adds.2 }

-- the payload of packets is shorter than their wire, and of bytes where that is
payload_short : (packets : List Packet) → length (payload_of packets) ≤ length (wire_of packets)
payload_short [] = omega arith
payload_short (p ∷ packets) = grind (arith, length-append, (payload_short packets))

payload_bytes : (packets : List Packet) → AreBytes (wire_of packets) → AreBytes (payload_of packets)
payload_bytes [] h = tt
payload_bytes (p ∷ packets) h = grind (arith, AreBytes-append, N.AreBytes-back, N.AreBytes-front, (payload_bytes packets))

-- the text so far is within 64 times the limit of the wire
fits_at : (run : Run) (packets : List Packet) (rest : List ℕ) (place : ℕ) (part : Part) (n : ℕ) → AreBytes run.input
    → wire_of packets ++ rest ≡ run.input → length (wire_of packets) ≤ (limits run).max_wire
    → Spelt (grammar run) response_start (take place (payload_of packets)) part → n ≤ length (text_so_far part) → n ≤ 64 * (limits run).max_wire
fits_at _ packets _ place _ n are begin within spelt few =
    let payload = payload_of packets in
    let most = bounded_along _ _ (N.AreBytes-front _ _ (rw (← N.take-append-drop place payload) at
    (payload_bytes packets (grind (arith, N.AreBytes-front))))) spelt in
    omega (arith, payload_short packets, ap length (N.take-append-drop place payload), length-append (take place payload) (drop place payload))

fits : (run : Run) (fault : Fault) (place : N.Place) → AreBytes run.input → N.Stops run fault place → length (text_put run) ≤ 64 * (limits run).max_wire
fits = grind (arith, fits_at, length-append)

-- the count of the bytes delivered is exact
exact : (run : Run) (delivered : ℕ) → delivered ≡ N.counted 0 (length run.gained) → length (text_put run) ≤ 64 * (limits run).max_wire
    → delivered ≡ length run.gained
exact = grind (arith, length-append)

-- ---- a run that stopped in writing

-- a part that fewer bytes lead to has no more text than that before the last element
earlier_text : (charset : N.Charset) (room : ℕ) (bytes element : List ℕ) (p q : Part) (place : ℕ) → Spelt (response charset room) response_start bytes p
    → length element ≡ (response charset room).size p → place < length (bytes ++ element)
    → Spelt (response charset room) response_start (take place (bytes ++ element)) q → length (text_so_far q) ≤ length (text_so_far p)
earlier_text _ _ bytes element p q place h whole less k = elim (dec_le place (length bytes)) [
  | yes below ↦
      (let rest = text_along _ _ (rest_leads (rw (N.take-append-le place bytes element below) at k) (rw (← N.take-append-drop place bytes) at h)) in
      omega (arith, ap length rest.1, length-append (text_so_far q) rest.0))
  | no above ↦
      (let n = place - length bytes in
      let sum : length bytes + n ≡ place = omega arith in
      let few = N.length-take-le n element (grind (arith, length-append)) in
      absurd (omega (
        arith,
        ap length (N.no_further _ _ _ p _ q h (grind (arith, length-append)) (rw (ap (λ v. take v
            (bytes ++ element)) (sym sum) ∙ N.take-append-add bytes element n) at k)),
      )))
]

-- the writer broke: the last packet read was needed to fill the block
broken : {run : Run} {q : PayloadView} {k : SinkView} {at : Part} {stop : Stop} → ReaderSide run q → IsWriter run.given k
    → (x : N.WritesPrefixStreaming (grammar run) text_so_far response_start (start run) q (fresh_at run.given) k at stop)
    → N.IsHolding run.given.after.areas.description ((grammar run).add at x.element)
    → (p : Puts (fresh_at run.given) x.middle (text_so_far at)) → run.gained ≡ p.0 ++ x.breaks.0
    → text_put run ≡ text_so_far at ++ take x.breaks.2 x.more → N.StopsInText run N.WriteFailed (length run.gained) × N.Bounded run
broken {run} {q} {k} {at} side writer x holds p gained all =
    let g = grammar run in
    let f = run.given.before.reader.failures in
    let be = x.bytes ++ x.element in
    let y = x.breaks in
    let to = g.add at x.element in
    let spelt = spelt_both x.spelt (N.Spelt-one g at x.element x.next) in
    let b = N.takes_begins _ _ f _ _ q _ _ side.bytes side.left x.takes x.between in
    let more = x.ahead ++ (q.future []).bytes in
    let payload_is = b.payload_is ∙ N.append_assoc be x.ahead (q.future []).bytes in
    let longest = N.some_longest g _ _ in
    let beyond = text_along _ _ (further g _ to longest.1 be more longest.0 spelt
    (grind (arith, longest))).1 in
    let last = N.in_last _ _ f _ _ _ q _ _ side.left x.takes b (grind (arith, length-append)) in
    let early = N.some_longest g _ _ in
    let fewer : early.0 < length be = omega arith in
    let front : take early.0 (payload_of last.before) ≡ take early.0 be = sym (grind (arith, N.take-append-le))
    ∙ ap (take early.0) (sym (ap payload_of (sym last.split) ∙ N.flat_map-append _ last.before (last.last ∷ [])) ∙ payload_is)
    ∙ N.take-append-le early.0 be more (omega arith) in
    let short = earlier_text _ _ _ _ at early.1 early.0 x.spelt x.next.whole fewer (grind arith) in
    let chunks : length (text_put run) ≡ 4096 * (length run.gained / 4096 + 1) = grind (arith, length-append) in
    let passes : length (text_so_far at) < length (text_put run) = grind (arith, length-append) in
    let text_more = sym (grind (arith, N.append_assoc)) ∙ ap (λ v. (v ++ drop y.2 x.more) ++ beyond.0) all
    ∙ ap (λ v. v ++ beyond.0) (grind (arith, N.append_assoc, N.take-append-drop)) ∙ beyond.1 in
    let comes : N.Comes run b.packets (length be) to =
    record {
      within = omega (arith, ap length payload_is, length-append be more);
      spelt = grind (arith, N.take-append_seam);
    } in
    let reached : Reached run to =
    record { rest = _; bytes = _; more = _; begins = rw N.append_assoc at b; spelt = spelt } in (
      record {
        packets = b.packets;
        place = longest.0;
        part = longest.1;
        more = drop y.2 x.more ++ beyond.0;
        stands = grind arith;
        leads = longest.2;
        fault_is = refl;
        written_is = refl;
        begins = text_more;
        needed = inr (last.before, last.last, early.0, early.1, last.split, early.2, chunks, omega arith);
        failed = grind (arith, N.rose);
        kept = grind (arith, kept_at);
      },
      bounded side.bytes reached holds.peak,
    )

-- ---- a run that read the whole response

-- the whole message was read: it is an accepted response
record WholeMessage (run : Run) (tokens : List Token) : Type 0 where
  packets : List Packet
  stands : N.Packets run packets
  accepted : N.IsAccepted run tokens packets
  leads : N.ReadsPart run packets (length (payload_of packets)) (N.after_tokens tokens)
  spelt : Spelt (grammar run) response_start (payload_of packets) (N.after_tokens tokens)
  kept : N.Keeps run packets (length (payload_of packets)) (N.after_tokens tokens)
  most : N.Bounded run

whole_message_of : {run : Run} {a q : PayloadView} {old new : SinkView} → a ≡ start run → ReaderSide run q
    → (x : N.ReadsWhole (grammar run) response_start a q old new run.given.after.areas.description) → WholeMessage run x.tokens
whole_message_of {run} {a} {q} is side x =
    let m = N.over_front _ _ _ _ _ q _ _ side.bytes side.left (rw is at x.takes) x.over in
    let reached : Reached run (N.after_tokens x.tokens) = grind (arith, append-nil) in
    let most = bounded side.bytes reached x.holds.peak in
    grind (arith, payload_bytes, N.AreBytes-front, response_is_spelt, N.longest_cut)

-- ---- what an export answers

-- the payload of a reader that told its bytes begins with them
begins_run : (given : ExportInput) {input : List ℕ} → given.before.reader.bytes ≡ Some input → N.begun_at given ≡ start (run_of given input [] [])
begins_run _ e = cc

-- all of the text was put, where the whole response was read
whole_puts : {g : N.Grammar Part Fault} {a q : PayloadView} {h k : SinkView} {area : N.Space} → (x : N.ReadsWhole g response_start a q h k area)
    → Puts h k (text x.tokens)
whole_puts = grind (arith, append-nil)

-- what is told of a stop, with the sink left in this state
abbrev StopTold : ExportInput → (input left : List ℕ) → Stop → SinkView → Type 0
StopTold given input left stop l = (gained : List ℕ) × N.Appends given.before.writer.bytes given.after.writer.bytes gained
    × N.Answer (run_of given input left gained) (N.Err (N.stopped_with stop l))

module _ {given : ExportInput} {input left : List ℕ} {q : PayloadView} {stop : Stop} (are : AreBytes input) (ql : q.left ≡ Some left)
    (reader : N.IsReader given q) (none : given.after.areas.notice.bytes ≡ []) where
  -- the writer failed
  in_text : {k : SinkView} {gained : List ℕ} → IsWriter given k → N.Appends given.before.writer.bytes given.after.writer.bytes gained
      → k.delivered ≡ N.counted 0 (length gained) → stop ≡ record { fault = N.WriteFailed; place = N.Text k.delivered }
      → N.StopsInText (run_of given input left gained) N.WriteFailed (length gained) × N.Bounded (run_of given input left gained)
      → StopTold given input left stop k
  in_text {k} {gained} writer has delivered is (stops, most) =
      let run = run_of given input left gained in
      let written = exact run _ delivered (fits run N.WriteFailed (N.Text (length gained)) are stops) in
      grind arith

  -- a stop in reading, in writing, and where the last delivery failed
  stopped_of : {k l : SinkView} {failed : Bool} → IsWriter given l
      → N.RunStops (N.grammar_of given) response_start (start (run_of given input left [])) q 0 (fresh_at given) k given.after.areas.description failed stop
      → (failed ≡ N.false → N.FlushedOrFailed k l) → (failed ≡ N.true → l ≡ k) → StopTold given input left stop l
  stopped_of {k} {l} writer (inl (inl (y, going))) tidy same =
      let d = sends _ _ _ writer (rw y.puts.1 at y.puts.2) (tidy going).1 in
      let run = run_of given input left d.gained in
      let side : ReaderSide run q = grind arith in
      let stops = reading_stops side y.stops y.holds (d.all ∙ append-nil (text_so_far y.at)) in (
        d.gained,
        d.has,
        record {
          outcome = record {
            stop = stops;
            written = exact run l.delivered d.delivered (fits _ _ _ are stops);
            unwritten = cc;
            no_notice = none;
            none_waits = grind arith;
          };
          bounded = bounded are (reached_stopped side y.stops) y.holds.peak;
        },
      )
  stopped_of {k} writer (inl (inr (y, broke))) tidy same =
      let x = y.breaks in
      let w : IsWriter given k = grind arith in
      let p = rw x.puts.1 at x.puts.2 in
      let d = sends _ _ _ w p x.breaks.3 in
      rw (same broke) (in_text w d.has d.delivered x.breaks.8 (broken (grind arith) w x y.holds p refl d.all))
  stopped_of {k} writer (inr (y, broke)) tidy same =
      let w : IsWriter given k = grind arith in
      let d = sends _ _ _ w (whole_puts y.whole) y.fails.1 in
      let whole = whole_message_of {run = run_of given input left d.gained} refl (grind arith) y.whole in
      rw (same broke) (in_text w d.has d.delivered y.fails.2 (grind (arith, append-nil)))

-- what a run that stopped read
stops_read : {g : N.Grammar Part Fault} {a q : PayloadView} {h k : SinkView} {area : N.Space} {failed : Bool} {stop : Stop}
    → N.RunStops g response_start a q 0 h k area failed stop → (read : List ℕ) × N.Consumes a.left q.left read
stops_read = grind arith

pub stop_tells : {given : ExportInput} {stopped : N.Stopped} → N.StopsExport given stopped → Tells given (N.Err stopped)
unfolding Tells
stop_tells {given} x = λ _ are e. let stops = rw (begins_run given e) at x.stops in
    let left = known_left _ _ (stops_read stops).1 in
    let all = rw (← x.stopped_is) at (stopped_of are left.1 x.reader x.notice x.writer stops x.tidied x.same) in
    (left.0, all.0, cc, all.1, all.2, outcome_succeeds _ all.2.outcome)

pub report_tells : {given : ExportInput} {report : N.Report} → N.Reports given report → Tells given (Ok report)
unfolding Tells
report_tells {given} {report} x = λ input are e. let y = x.completes in
    let tokens = y.whole.tokens in
    let left = known_left input y.whole.takes.0 (rw e at y.whole.takes.1.0) in
    let d = sends y.middle [] y.finishes.0 x.writer (whole_puts y.whole) y.finishes.1 in
    let run = run_of given input left.0 d.gained in
    let whole = whole_message_of {run = run} (begins_run given e) (grind arith) y.whole in
    let empty = sym x.writer.waiting ∙ y.finishes.2 in
    let same = d.all ∙ append-nil (text tokens) in
    let gained = sym (append-nil run.gained) ∙ ap (λ w. run.gained ++ w) (sym empty) ∙ same in
    let few = fits_at run whole.packets left.0 (length (payload_of whole.packets)) (N.after_tokens tokens) (length (text_put run)) are
    whole.stands.begin whole.stands.within (grind arith) (omega (arith, ap length same, ap length (append-nil (text tokens)))) in
    let written = exact run x.held.delivered d.delivered few ∙ ap length gained in
    let outcome : N.Reported run report = record {
      tokens = tokens;
      packets = whole.packets;
      accepted = whole.accepted;
      stands = whole.stands;
      report_is = cc;
      written = gained;
      none_waits = empty;
      notice = x.notice;
      kept = whole.kept;
      no_failure = no_failure given report x;
    } in
    (left.0, d.gained, cc, d.has, grind arith, outcome_succeeds (Ok report) outcome)
