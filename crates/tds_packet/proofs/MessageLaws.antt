-- An input begins with one message at most.
use Rattle.tds_packet.proofs as N
use N.{◌≡◌, ℕ, ◌≤◌, List, [], ◌∷◌, ◌++◌, Packet, wire}
use N.Feeding.{Reading, feed_all}
use N.ElementLaws.{feed-Spelt, feed_part}

module _ (size limit : ℕ) where
  abbrev pub after_packets : List Packet → N.WirePart
  after_packets packets = record { packets = packets; place = N.AfterLast }

  -- a message is read to its end
  pub message_is_read : (done packets : List Packet) → N.AreMessage size packets → N.length (N.wire_of (done ++ packets)) ≤ limit
      → N.Spelt (wire size limit) (N.PacketLaws.before_packet size limit done) (N.wire_of packets) (after_packets (done ++ packets))
  message_is_read done [] h f = absurd h
  message_is_read done (p ∷ []) h f = rw N.append-nil
      (rw h.1 at (N.PacketLaws.packet_is_read size limit done p h.0 (omega (N.arith, simp (N.flat_map-append, N.length-append) at f, h.0.id))))
  message_is_read done (p ∷ q ∷ packets) h f =
      let same = N.append_assoc done (p ∷ []) (q ∷ packets) in
      N.PacketLaws.one_is_read _ _ _ h.0 h.1 f (rw same at (message_is_read (done ++ p ∷ []) (q ∷ packets) h.2 (rw same f)))

  -- and nothing after it
  pub read_to_end : (packets : List Packet) (w more : List ℕ) → N.Message size limit packets w
      → feed_all (wire size limit) (Reading N.no_wire []) (w ++ more) ≡ Reading (after_packets packets) more
  read_to_end packets w more m = rw (
    N.ElementLaws.feed_all-append,
    feed-Spelt _ N.no_wire w _ (rw m.spelt at (message_is_read [] packets m.each (grind N.arith))),
    feed_part (wire size limit) (after_packets packets) [] more (omega N.arith),
  )

  -- no input begins with two messages
  pub one_message : (a b : List Packet) (w v x y : List ℕ) → N.Message size limit a w → N.Message size limit b v → w ++ x ≡ v ++ y → a ≡ b
  one_message a b w v x y m n = grind (N.arith, read_to_end a w x m, read_to_end b v y n)
