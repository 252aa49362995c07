-- What the wire's grammar reads are the packets that the input begins with, and what comes of them their payload.
use Rattle.tds_packet.proofs as N
use N.{◌≡◌, ℕ, ◌+◌, ◌-◌, ◌/◌, ◌%◌, ◌≤◌, true, false, List, [], ◌∷◌, ◌++◌, length, take, drop, refl, ◌∙◌, ap, inl, inr, append_assoc, append-nil, arith}
use N.{length-append, ◌⊎◌, None, ◌==◌, if◌then◌else◌, AreBytes, Spelt, Packet, wire_of, is_last, IsPacket, AreBefore, WirePlace, BeforeBody, WirePart, no_wire}
use N.{header_length, wire, ◌<◌, nat_lt, payload_of, before}
use N.Words.{front_packet, message}
use N.ElementLaws.{Spelt-step, Spelt-append, Spelt-none, Spelt-induct, AreBytes-front, AreBytes-back, one_state, longest_cut}
use N.Choices.{choose, eq_true}

pub one_more : (size : ℕ) (ps : List Packet) (p : Packet) → AreBefore size ps → IsPacket size p → is_last p ≡ false → AreBefore size (ps ++ p ∷ [])
one_more size [] p h i l = (i, l, tt)
one_more size (q ∷ ps) p h i l = (h.0, h.1, one_more size ps p h.2 i l)

pub last_one : {size : ℕ} (ps : List Packet) {p : Packet} → AreBefore size ps → IsPacket size p → is_last p ≡ true → N.AreMessage size (ps ++ p ∷ [])
last_one [] h i l = (i, l)
last_one (q ∷ []) h i l = grind arith
last_one {size} (q ∷ r ∷ ps) {p} h i l = (h.0, h.1, last_one (r ∷ ps) h.2 i l)

-- a header that has no fault
abbrev Good : ℕ → ℕ → List Packet → List ℕ → Type 0
Good size limit packets header = (length header ≡ 8) × AreBytes header × (N.header_fault size limit (length (wire_of packets)) header ≡ None)

-- what the bytes that lead to a place of the wire are
abbrev pub WireMeans : ℕ → ℕ → List Packet → WirePlace → List ℕ → Type 0
WireMeans size limit packets N.BeforeHeader b = (b ≡ wire_of packets) × AreBefore size packets × (length b ≤ limit)
WireMeans size limit packets (BeforeBody header) b = (b ≡ wire_of packets ++ header) × AreBefore size packets × Good size limit packets header
WireMeans size limit packets N.AfterLast b = (b ≡ wire_of packets) × N.AreMessage size packets × (length b ≤ limit)

module _ (size limit : ℕ) where
  with_means : (packets : List Packet) (header body : List ℕ) → AreBefore size packets → Good size limit packets header
      → length body ≡ header_length header - 8 → let w = N.with_packet packets (N.packet_of header body) in
      WireMeans size limit w.packets w.place (wire_of packets ++ (header ++ body))
  with_means = grind (arith, append-nil, N.flat_map-append, length-append, last_one, one_more)

  wire_step : {packets : List Packet} (place : WirePlace) (b : List ℕ) {e : List ℕ} → AreBytes e → WireMeans size limit packets place b
      → N.IsNext (wire size limit) (record { packets = packets; place = place }) e → let w = N.wire_add packets place e in
      WireMeans size limit w.packets w.place (b ++ e)
  wire_step N.AfterLast b bytes h n = grind arith
  wire_step {packets} N.BeforeHeader b {e} bytes h n =
      choose (λ w. WireMeans size limit w.packets w.place (b ++ e)) (header_length e == 8) (N.with_packet packets _)
      (record { packets = packets; place = BeforeBody e }) (λ z. (let eight = eq_true (header_length e) 8 z in rw h.0
      (rw append-nil at (with_means packets e [] h.1 (grind arith) (omega arith))))) (grind arith)
  wire_step (BeforeBody header) b bytes h n = grind (arith, append_assoc, with_means)

  -- what is read of a wire are the packets that it begins with
  wire_is_spelt : (bytes : List ℕ) (w : WirePart) → AreBytes bytes → Spelt (wire size limit) no_wire bytes w → WireMeans size limit w.packets w.place bytes
  wire_is_spelt bytes w are h = Spelt-induct _ (λ q b. AreBytes b → WireMeans size limit q.packets q.place b)
      (grind (arith, wire_step, AreBytes-back, AreBytes-front)) no_wire (grind arith) bytes w h are

-- the header of a packet
abbrev pub header_of : Packet → List ℕ
header_of p = 4 ∷ p.status ∷ N.packet_length p / 256 ∷ N.packet_length p % 256 ∷ p.id

module _ (size limit : ℕ) where
  abbrev pub before_packet : List Packet → WirePart
  before_packet packets = record { packets = packets; place = N.BeforeHeader }

  -- a packet that may follow is read
  pub packet_is_read : (packets : List Packet) (p : Packet) → IsPacket size p → length (wire_of packets) + N.packet_length p ≤ limit
      → Spelt (wire size limit) (before_packet packets) (N.packet_bytes p) (N.with_packet packets p)
  packet_is_read packets p i f = let g = wire size limit in
      elim p.body as (λ b. p.body ≡ b → Spelt g (before_packet packets) (header_of p ++ b)
      (N.with_packet packets (record { status = p.status; id = p.id; body = b }))) [
        | [] ↦ λ e. grind (arith, append-nil, Spelt-step)
        | ◌∷◌ x (xs → _) ↦ λ e. (let inside : WirePart = record { packets = packets; place = BeforeBody (header_of p) } in
            Spelt-append g _ (header_of p) inside (x ∷ xs) _ (grind (arith, Spelt-step)) (grind (arith, Spelt-step)))
      ] refl

  -- a packet before the last is read, and what follows it
  pub one_is_read : {done : List Packet} {p : Packet} (packets : List Packet) {to : WirePart} → IsPacket size p → is_last p ≡ false
      → length (wire_of (done ++ p ∷ packets)) ≤ limit → Spelt (wire size limit) (before_packet (done ++ p ∷ [])) (wire_of packets) to
      → Spelt (wire size limit) (before_packet done) (wire_of (p ∷ packets)) to
  one_is_read {done} {p} packets i last fits =
      Spelt-append _ _ _ _ _ _ (rw last at (packet_is_read done p i (omega (arith, simp (N.flat_map-append, length-append) at fits))))

  -- packets before the last are read
  pub before_are_read : (done packets : List Packet) → AreBefore size packets → length (wire_of (done ++ packets)) ≤ limit
      → Spelt (wire size limit) (before_packet done) (wire_of packets) (before_packet (done ++ packets))
  before_are_read done [] h f = search N.rules
  before_are_read done (p ∷ packets) h f = one_is_read packets h.0 h.1 f (rw append_assoc at (before_are_read (done ++ p ∷ []) packets h.2 (rw append_assoc f)))

  -- the packet that follows would be read too
  no_next : {input : List ℕ} {taken : ℕ} {packets : List Packet} {place : WirePlace} {header : List ℕ}
      → N.Longest (wire size limit) no_wire input taken (record { packets = packets; place = place }) → AreBefore size packets
      → take taken input ≡ wire_of packets ++ header
      → (header ≡ []) ⊎ ((length header ≡ 8) × (place ≡ BeforeBody header)) → (next : Packet) → N.IsNextPacket size limit input packets next → ⊥
  no_next {input} {taken} {packets} {place} {header} l before is cause next f =
      let all = wire_of packets ++ N.packet_bytes next in
      let front : take (length all) input ≡ all = grind (arith, N.take-append_seam) in
      let long = length-append (wire_of packets) (N.packet_bytes next) in
      let size_is : length (N.packet_bytes next) ≡ N.packet_length next = grind (arith, length-append) in
      let read = Spelt-append _ _ _ _ _ _ (before_are_read _ _ before (omega arith)) (grind (arith, packet_is_read)) in
      let within = l.longest (length all) (N.with_packet packets next) (grind (arith, length-append)) (rw front read) in
      let counted = N.sym (N.length-take-le taken input l.within) ∙ ap length is ∙ length-append _ header in
      let one : length all ≡ taken → place ≡ (if is_last next then N.AfterLast else N.BeforeHeader) =
      λ same. ap (λ w. w.place) (one_state _ no_wire _ _ (N.with_packet packets next) l.spelt (grind arith)) in
      grind arith

  -- What is read at most of an input are the packets at its front.
  pub read_front : (input : List ℕ) (taken : ℕ) (w : WirePart) → AreBytes input → N.Longest (wire size limit) no_wire input taken w
      → N.Front size limit input w.packets
  read_front input taken w are l =
      elim w.place as (λ place. N.Longest (wire size limit) no_wire input taken (record { packets = w.packets; place = place })
      → WireMeans size limit w.packets place (take taken input) → N.Front size limit input w.packets) [
        | N.BeforeHeader ↦ λ l k. grind (arith, N.take-append-drop taken input, no_next l k.1 (k.0 ∙ N.sym (append-nil _)) (inl refl))
        | BeforeBody header ↦ λ l k. grind (arith, append_assoc, N.take-append-drop taken input, no_next l k.1 k.0 (grind arith))
        | N.AfterLast ↦ λ l k. grind (arith, N.take-append-drop taken input)
      ] l (wire_is_spelt size limit _ w (AreBytes-front _ (drop taken input) (rw N.take-append-drop are)) l.spelt)

-- ---- what comes of an input

-- what comes after these packets, by the packet that follows them
module _ (size limit : ℕ) (packets : List Packet) where
  abbrev at : WirePlace → WirePart
  at place = record { packets = packets; place = place }

  -- the wire stops after these packets and the bytes before an element that is refused or cut
  stops_at : (front rest : List ℕ) (place : WirePlace) (fault : N.Fault) (left : List ℕ) → AreBytes (front ++ rest) → AreBefore size packets
      → Spelt (wire size limit) no_wire front (at place)
      → N.IsRefused (wire size limit) (at place) rest fault ⊎ ((length rest < N.wire_size place) × (N.wire_end place ≡ N.Some fault))
      → N.IsFrontMessage size limit (front ++ rest) (before (payload_of packets) (N.stopped_at fault (N.Wire (length (wire_of packets))) left))
  stops_at front rest place fault left are each spelt cause =
      let g = wire size limit in
      let longest : N.Longest g no_wire (front ++ rest) _ (at place) =
      elim cause [ inl x ↦ N.ElementLaws.longest_refused g _ _ _ _ _ spelt x | inr x ↦ longest_cut g _ _ _ _ spelt x.0 ] in
      let front_is = read_front _ _ _ _ _ are longest in
      grind (arith, append-nil, N.drop-append_seam)

  -- what comes after these packets is the message at the front, by the packet that follows them
  abbrev Gives : ℕ → List ℕ → N.FrontPacket → Type 0
  Gives n input p = N.IsFrontMessage size limit input
      (before (payload_of packets) (N.after_packet (message size limit n) (length (wire_of packets)) (length (payload_of packets)) p))

-- with this much fuel, what comes after any packets before the last is the message at the front
abbrev Comes : ℕ → ℕ → ℕ → Type 0
Comes size limit n = (packets : List Packet) (rest : List ℕ) → AreBytes (wire_of packets ++ rest) → AreBefore size packets
    → length (wire_of packets) ≤ limit → length rest < n → N.IsFrontMessage size limit (wire_of packets ++ rest)
    (before (payload_of packets) (message size limit n (length (wire_of packets)) (length (payload_of packets)) rest))

module _ (size limit n : ℕ) (packets : List Packet) (each : AreBefore size packets) (within : length (wire_of packets) ≤ limit) where
  -- a packet is whole
  whole_gives : (p : Packet) (wired more : List ℕ) (last : N.Bool) (count : ℕ) → Comes size limit n → AreBytes (wire_of packets ++ (wired ++ more))
      → (N.packet_bytes p ≡ wired) × IsPacket size p → length wired ≡ count → length (wire_of packets) + count ≤ limit → length more < n → is_last p ≡ last
      → Gives size limit packets n (wire_of packets ++ (wired ++ more)) (N.WholePacket p.body last count more)
  whole_gives p wired more last count comes are fits long limited less is =
      let joined : wire_of (packets ++ p ∷ []) ≡ wire_of packets ++ wired = simp (N.flat_map-append, append-nil, fits.0) in
      grind (arith, N.flat_map-append, last_one, append_assoc, length-append, at, one_more)

  -- a header is whole
  header_gives : (header rest : List ℕ) (o : N.Option N.Fault) → Comes size limit n → AreBytes (wire_of packets ++ (header ++ rest)) → length header ≡ 8
      → length rest < n → N.header_fault size limit (length (wire_of packets)) header ≡ o
      → Gives size limit packets n (wire_of packets ++ (header ++ rest)) (N.packet_after_header header rest o)
  header_gives header rest (N.Some fault) comes are eight less is =
      let first : take 8 (header ++ rest) ≡ header = rw (← eight) (N.take-append_seam header rest) in
      stops_at _ _ _ _ _ _ _ _ are each (before_are_read _ _ _ _ each within)
      (grind arith)
  header_gives header rest None comes are eight less free =
      let m = header_length header - 8 in
      let bytes : AreBytes header = grind (arith, AreBytes-front, AreBytes-back) in
      elim (N.dec_le m (length rest)) [
        | yes enough ↦
            (let test : nat_lt (length rest) m ≡ false = grind arith in
            let body = N.length-take-le m rest enough in
            let again : (N.packet_bytes (N.packet_of header (take m rest)) ≡ header ++ take m rest) × IsPacket size (N.packet_of header (take m rest)) =
            grind arith in
            let all : (header ++ take m rest) ++ drop m rest ≡ header ++ rest = rw (append_assoc, N.take-append-drop) in
            rw (test, ← all) (whole_gives _ (header ++ take m rest) _ _ _ comes (rw all are) again
            (grind (arith, length-append)) (grind arith) (omega (arith, N.length-drop m rest)) refl))
        | no short ↦
            (let test : nat_lt (length rest) m ≡ true = grind arith in
            let off : (header_length header == 8) ≡ false = grind arith in
            let inside = Spelt-step _ _ header (at size limit packets (BeforeBody header)) (omega arith) eight free (rw off) in
            let read = Spelt-append _ _ _ _ _ _ (before_are_read size limit [] packets each within) inside in
            rw (test, ← append_assoc) (stops_at size limit packets _ rest _ _ _ (rw append_assoc are) each read (inr (omega arith, refl))))
      ]

-- what comes after any packets before the last is the message at the front
comes_front : {size limit : ℕ} (n : ℕ) → Comes size limit n
unfolding message front_packet
comes_front N.zero packets rest are each within less = grind arith
comes_front {size} {limit} (N.suc n) packets rest are each within less = elim (N.dec_le 8 (length rest)) [
  | yes long ↦
      (let test : nat_lt (length rest) 8 ≡ false = grind arith in
      let all = N.take-append-drop 8 rest in
      rw test (rw all at (header_gives size limit n packets each within _ (drop 8 rest) _ (comes_front n) (rw all are)
      (N.length-take-le 8 rest long) (grind arith) refl)))
  | no short ↦
      (let test : nat_lt (length rest) 8 ≡ true = grind arith in
      rw test (stops_at size limit _ _ _ _ _ _ are each (before_are_read _ _ _ _ each within) (grind arith)))
]

-- What comes of an input is the message at its front.
pub front_message : (size limit : ℕ) (input : List ℕ) → AreBytes input → N.IsFrontMessage size limit input (N.whole_message size limit input)
front_message size limit input are = comes_front _ [] input are tt (omega arith) (omega arith)
