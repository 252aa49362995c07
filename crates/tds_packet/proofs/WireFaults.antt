-- Which faults the payload itself may have.
use Rattle.tds_packet.proofs as N
use N.{◌≡◌, ◌+◌, ◌++◌, ◌⊎◌, ℕ, List, [], ⊤, Fault, seen}
use N.Words.{coming_of, front_packet, message}

-- a fault that the wire or the end of a message may have
abbrev pub IsOfWire : Fault → Type 0
IsOfWire N.ReadFailed = ⊥
IsOfWire N.WriteFailed = ⊥
IsOfWire fault = ⊤

-- what comes from a place on stops with such a fault, and with the message's end only after its bytes
abbrev Stands : ℕ → N.Coming → Type 0
Stands place c = IsOfWire c.stop.fault × (c.stop.fault ≡ N.MessageEnded → c.stop.place ≡ N.Payload (place + N.length c.bytes))

message_stands : (size limit fuel wire place : ℕ) (input : List ℕ) → Stands place (message size limit fuel wire place input)
unfolding message front_packet
message_stands size limit N.zero wire place input = grind N.arith
message_stands size limit (N.suc fuel) wire place input = grind (N.arith, N.common_steps, message_stands size limit fuel)

-- so does what comes of a payload that has not stopped
pub seen_stands : {R : Type 0} (remaining : R → N.Option (List ℕ)) (p : N.PayloadOf R) (input : List ℕ) → p.stopped ≡ N.None
    → Stands p.place ((seen remaining p).future input)
unfolding coming_of
seen_stands = grind (N.arith, N.length-append, message_stands)

-- what comes of an input stops with such a fault
pub message_of_wire : (size limit fuel wire place : ℕ) (input : List ℕ) → IsOfWire (message size limit fuel wire place input).stop.fault
message_of_wire size limit fuel wire place input = search (N.rules, message_stands, wire)

-- a payload that had not stopped stops so, or with a read that failed
pub ends_stand : {R : Type 0} (remaining : R → N.Option (List ℕ)) (p : N.PayloadOf R) (b : N.PayloadView) (bytes : List ℕ) (own : N.Stop)
    → p.stopped ≡ N.None → N.Ends (seen remaining p) b bytes own
    → Stands p.place (record { bytes = bytes; stop = own; rest = [] }) ⊎ ((own.fault ≡ N.ReadFailed) × (b.failures ≡ N.one_more p.from.now.failures))
ends_stand remaining p b bytes own going ends = elim ends [
  | N.inl x ↦ N.inl (rw (x.2 []) at (seen_stands remaining p (x.0 ++ []) going))
  | N.inr (N.inl x) ↦ N.inl (rw x.3 at (seen_stands remaining p x.0 going))
  | N.inr (N.inr x) ↦ N.inr (x.2, x.4.0)
]

-- a payload that stops blames a device only where a read failed
pub ends_blame : {R : Type 0} (remaining : R → N.Option (List ℕ)) (p : N.PayloadOf R) (b : N.PayloadView) (bytes : List ℕ) (own : N.Stop) → p.stopped ≡ N.None
    → N.Ends (seen remaining p) b bytes own → (own.fault ≡ N.WriteFailed → ⊥) × (own.fault ≡ N.ReadFailed → b.failures ≡ N.one_more p.from.now.failures)
ends_blame remaining p b bytes own going ends = let stands = ends_stand remaining p b bytes own going ends in grind N.arith
