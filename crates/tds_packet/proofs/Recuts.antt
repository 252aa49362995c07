-- A payload on its way into packets of one size.
use Rattle.tds_packet.proofs as N
use N.{PayloadOf, ◌≡◌, ◌∙◌, inr, ℕ, suc, ◌+◌, ◌-◌, ◌*◌, ◌<◌, ◌≤◌, Bool, true, false, List, [], ◌∷◌, ◌++◌, length, drop, Option, None, refl, ap, arith}
use N.{length-append, Ok, Err, ◌^◌, Counted, Stop, wire_of, seen, Gathers, cut_packet, Takes}
use N.Words.{coming_of, first_packets}
use N.Futures.{Takes-more}

-- what was gathered, and bytes after it
pub joined : (a b c : N.PayloadView) (hs bs : List ℕ) (n : ℕ) → n ≤ length bs + 1 → Takes a b hs (length hs + 1) → Takes b c bs n
    → Takes a c (hs ++ bs) (length (hs ++ bs) + 1)
joined a b c hs bs n le p q = Takes-more a c _ _ _ (omega (arith, length-append hs bs))
    (N.Futures.Takes-trans a b c _ _ _ _ (omega arith) p (Takes-more b c _ n _ le q))

-- So many bytes were taken after those of a header.
pub record Gathering {R : Type 0} (remaining : R → Option (List ℕ)) (o s : PayloadOf R) (room : ℕ) (packet : List ℕ) : Type 0 where
  pub header : 8 ≤ length packet
  pub fits : length packet ≤ room
  pub place : s.place ≡ o.place + length (drop 8 packet)
  pub takes : Takes (seen remaining o) (seen remaining s) (drop 8 packet) (length (drop 8 packet) + 1)

module _ {R : Type 0} {remaining : R → Option (List ℕ)} {o s : PayloadOf R} (t : PayloadOf R) {room : ℕ} {packet : List ℕ}
    (x : Gathering remaining o s room packet) where
  -- a byte was asked for
  asked : Takes (seen remaining s) (seen remaining t) [] 1 → Takes (seen remaining o) (seen remaining t) (drop 8 packet) (length (drop 8 packet) + 1)
  asked q = rw N.append-nil at (joined (seen remaining o) _ _ (drop 8 packet) [] 1 (omega arith) x.takes q)

  -- the payload stopped
  pub gathered_err : {r : N.Result Bool Stop} {stop : Stop} → N.IsErrAnd r (λ e. e ≡ stop) → N.Ends (seen remaining s) (seen remaining t) [] stop
      → (stop.fault ≡ N.MessageEnded → ⊥) → Gathers remaining o t room packet r
  gathered_err {r} {stop} is ends goes_on =
      let gives = N.PayloadLaws.ends_there remaining o s t x.takes ends in
      N.Passing.passed_on r stop (Gathers remaining o t room packet) is (grind arith)

  module _ (q : Takes (seen remaining s) (seen remaining t) [] 1) (stays : t.place ≡ s.place) where
    -- the packet is full, or no byte is left
    pub gathered_ok : {last : Bool} → N.IsBetween (seen remaining t) → (N.IsTrue last → N.IsOver (seen remaining t))
        → (last ≡ false → (length packet ≡ room) × (0 < length (N.buffered t)) × N.IsNotOver (seen remaining t)) → Gathers remaining o t room packet (Ok last)
    gathered_ok = grind (arith, asked)

    -- bytes that lay ready were taken
    pub gathered_more : {d : PayloadOf R} (piece : List ℕ) → Takes (seen remaining t) (seen remaining d) piece 0 → d.place ≡ t.place + length piece
        → length packet + length piece ≤ room → Gathering remaining o d room (packet ++ piece)
    gathered_more {d} piece r =
        let takes = joined (seen remaining o) _ (seen remaining d) (drop 8 packet) piece 0 (omega arith) (asked q) r in
        grind (arith, length-append)

ready_first : {R : Type 0} (remaining : R → Option (List ℕ)) (p : PayloadOf R) (input : List ℕ) → p.stopped ≡ None
    → length (N.buffered p) ≤ length ((seen remaining p).future input).bytes
unfolding coming_of
ready_first = grind (arith, length-append)

-- a body holds what lay ready
some_ready : {R : Type 0} (remaining : R → Option (List ℕ)) {s t : PayloadOf R} {room : ℕ} {packet : List ℕ} (r : N.Result Bool Stop)
    → Gathers remaining s t room packet r → s.stopped ≡ None → 8 < room → 0 < length (N.buffered s) → 0 < length (drop 8 packet)
some_ready remaining {s} (Ok true) made going large some =
    omega (arith, some, rw (made.gives.1.1 [], (made.over refl).2 [], N.append-nil) at (ready_first remaining s (made.gives.0 ++ []) going))
some_ready remaining {packet} (Ok false) made going large some = grind arith
some_ready remaining {s} (Err stop) made going large some = elim made.gives [
  | N.inl x ↦ omega (arith, some, rw (x.2 []) at (ready_first remaining s (x.0 ++ []) going))
  | inr (N.inl x) ↦ omega (arith, some, rw x.3 at (ready_first remaining s x.0 going))
  | inr (inr x) ↦ omega (arith, some, rw x.3 at (ready_first remaining s x.0 going))
]

-- more bytes after full packets change none of them
first-more : (m k : ℕ) (xs ys : List ℕ) → k * m ≤ length xs → first_packets m k (xs ++ ys) ≡ first_packets m k xs
unfolding first_packets
first-more m N.zero xs ys h = cc
first-more m (suc k) xs ys h =
    rw (
      first-more m k xs ys (omega arith),
      N.drop-append-le (k * m) xs ys (grind arith),
      N.take-append-le m (drop (k * m) xs) ys (grind (arith, N.length-drop)),
    )

first-length : (m k : ℕ) (xs : List ℕ) → length (first_packets m k xs) ≡ k
unfolding first_packets
first-length m N.zero xs = cc
first-length m (suc k) xs = rw (length-append, first-length m k xs) (omega arith)

wire-more : (ps : List N.Packet) (p : N.Packet) → wire_of (ps ++ p ∷ []) ≡ wire_of ps ++ N.packet_bytes p
wire-more ps p = simp (N.flat_map-append, N.append-nil)

-- how a payload is cut that ends with a body after full packets
parts : (m k : ℕ) (payload body : List ℕ) → length payload ≡ k * m → length body ≤ m → 0 < m → (0 < k → 0 < length body)
    → (N.before_last m (length (payload ++ body)) ≡ k) × (N.packets_before m (payload ++ body) ≡ first_packets m k payload)
    × (drop (k * m) (payload ++ body) ≡ body)
parts = grind (arith, length-append, first-more, N.drop-append_seam)

-- a full packet more is one of the first
first_is : (m k n : ℕ) (payload body : List ℕ) → n ≡ suc k → length payload ≡ k * m → length body ≡ m
    → first_packets m n (payload ++ body) ≡ first_packets m k payload ++ cut_packet k false body ∷ []
unfolding first_packets
first_is = grind (arith, N.drop-append_seam, N.take_all, first-more)

-- Full packets were written, and these bytes of the payload taken for them. More were ready then.
pub record Cutting {R W : Type 0} (remaining : R → Option (List ℕ)) (contents : W → Option (List ℕ)) (m : ℕ) (a : N.PayloadView) (s : PayloadOf R)
    (old new : Counted W) (done : N.Written) : Type 0 where
  pub payload : List ℕ
  pub takes : Takes a (seen remaining s) payload (length payload + 1)
  pub whole : length payload ≡ done.packets * m
  pub placed : s.place ≡ length payload
  pub wrote : N.Gains contents old new (wire_of (first_packets m done.packets payload))
  pub bytes_are : done.bytes ≡ length (wire_of (first_packets m done.packets payload))
  pub stays : N.Stays old.failures new.failures (wire_of (first_packets m done.packets payload))
  pub more : 0 < done.packets → 0 < length (N.buffered s)

-- nothing was cut
pub cut_none : {R W : Type 0} (remaining : R → Option (List ℕ)) (contents : W → Option (List ℕ)) {m : ℕ} {s : PayloadOf R} {to : Counted W}
    → s.place ≡ 0 → Cutting remaining contents m (seen remaining s) s to to (record { packets = 0; bytes = 0 })
unfolding first_packets
cut_none = grind (arith, N.Appends-nil)

module _ {R W : Type 0} {remaining : R → Option (List ℕ)} {contents : W → Option (List ℕ)} {a : N.PayloadView} {s t : PayloadOf R} {room : ℕ} {packet : List ℕ}
    {old mid : Counted W} {done : N.Written}
    (x : Cutting remaining contents (room - 8) a s old mid done) (going : s.stopped ≡ None) (large : 8 < room) where
  next_parts : {r : N.Result Bool Stop} → Gathers remaining s t room packet r → let all = x.payload ++ drop 8 packet in
      (N.before_last (room - 8) (length all) ≡ done.packets) × (N.packets_before (room - 8) all ≡ first_packets (room - 8) done.packets x.payload)
      × (drop (done.packets * (room - 8)) all ≡ drop 8 packet)
  next_parts {r} made = parts _ _ _ _ x.whole (grind arith) (grind arith) (grind (arith, some_ready))

  next_takes : {last : Bool} → Gathers remaining s t room packet (Ok last)
      → Takes a (seen remaining t) (x.payload ++ drop 8 packet) (length (x.payload ++ drop 8 packet) + 1)
  next_takes made = search (N.rules, joined, N.le_refl)

  next_full : {last : Bool} → Gathers remaining s t room packet (Ok last) → last ≡ false → length (x.payload ++ drop 8 packet) ≡ (done.packets + 1) * (room - 8)
  next_full = grind (arith, length-append, N.suc-mul)

  -- a full packet was written
  pub cut_more : {new : Counted W} {last : Bool} {more : N.Written} → last ≡ false → Gathers remaining s t room packet (Ok last)
      → N.WritesPacket contents mid new done (N.packet_bytes (cut_packet done.packets false (drop 8 packet))) (Ok more)
      → Cutting remaining contents (room - 8) a t old new more
  cut_more {new} test made writes = let full : length (drop 8 packet) ≡ room - 8 = grind arith in
      let firsts = ap wire_of (first_is _ _ (done.packets + 1) x.payload (drop 8 packet) (omega arith) x.whole full)
      ∙ wire-more (first_packets (room - 8) done.packets x.payload) (cut_packet done.packets false (drop 8 packet)) in
      let takes = next_takes made in
      let whole = next_full made test in
      let wrote = N.Appends-trans (contents old.device) (contents mid.device) (contents new.device) _ _ x.wrote writes.0 in
      grind (arith, length-append)

  -- a packet, or the flush after the last one, failed
  pub cut_broken : (new : Counted W) {last is : Bool} {stop : N.RecutStop} (r : N.Result N.Recut N.RecutStop) → N.IsErrAnd r (λ x. x ≡ stop) → last ≡ is
      → Gathers remaining s t room packet (Ok last)
      → N.WritesPacket contents mid new done (N.packet_bytes (cut_packet done.packets is (drop 8 packet))) (Err stop)
      → N.Cuts contents (room - 8) a (seen remaining t) old new r
  cut_broken new {is = is} r passed test made writes = let p = next_parts made in
      N.Passing.passed_on _ _ (N.Cuts contents (room - 8) a (seen remaining t) old new) passed (inr (record {
        payload = x.payload ++ drop 8 packet;
        last = is;
        part = writes.0;
        rest = writes.1;
        takes = next_takes made;
        between = grind arith;
        over = grind arith;
        goes_on = grind (arith, next_full);
        split = grind arith;
        wrote = grind (arith, N.Appends-trans);
        stop_is = grind (arith, length-append);
        failures = rw p.1 (N.Joins.Stays-Rises _ _ x.stays writes.5);
      }))

  -- all was written, and the writer flushed
  pub cut_finished : {last : Bool} (new sent : Counted W) {all : N.Written} {total : ℕ} (r : N.Result N.Recut N.RecutStop) → last ≡ true
      → Gathers remaining s t room packet (Ok last) → total ≡ t.place
      → N.WritesPacket contents mid sent done (N.packet_bytes (cut_packet done.packets true (drop 8 packet))) (Ok all)
      → N.Flushes contents sent new all total r → N.Cuts contents (room - 8) a (seen remaining t) old new r
  cut_finished new sent (Ok answer) test made et writes flushes =
      let p = next_parts made in
      let takes = next_takes made in
      let both = N.Appends-trans (contents old.device) (contents mid.device) _ _ _ x.wrote writes.0 in
      grind (arith, length-append, first-length, wire-more)
  cut_finished new sent (Err stop) test made et writes flushes = let bytes = N.packet_bytes (cut_packet done.packets true (drop 8 packet)) in
      cut_broken new (Err stop) refl test made (
        bytes,
        [],
        N.append-nil bytes,
        N.Appends-kept (contents mid.device) _ (contents new.device) bytes writes.0 flushes.0,
        rw writes.1 at flushes.1.0,
        grind arith,
      )

  -- the input stopped, and the writer was flushed
  pub cut_stopped : {new : Counted W} {stop : Stop} {flushed : Bool} → Gathers remaining s t room packet (Err stop)
      → N.Keeps (contents mid.device) (contents new.device)
      → (N.IsTrue flushed → (new.failures ≡ mid.failures) × (mid.failures < 2 ^ 64 - 1)) → (flushed ≡ false → new.failures ≡ N.one_more mid.failures)
      → N.StopsInput contents (room - 8) a (seen remaining t) old new (record { stop = stop; written = done.bytes; unwritten = 0 })
  cut_stopped {new} {stop} made = let p = next_parts made in
      let ends = N.Futures.Ends-after a _ (seen remaining t) x.payload (drop 8 packet) _ stop x.takes made.gives in
      grind arith
