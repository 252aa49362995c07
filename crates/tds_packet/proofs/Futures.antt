-- What is still to come, along a payload's steps.
use Rattle.tds_packet.proofs as N
use N.{◌≡◌, inl, inr, ℕ, suc, ◌+◌, ◌-◌, ◌<◌, ◌≤◌, List, [], ◌++◌, length, take, None, arith, Takes, Ends, buffered, seen, device}
use N.Words.{front_packet, message, coming_of}
use N.Joins.{Stays-trans}

rest_shorter : (room max wire : ℕ) (xs : List ℕ) {body rest : List ℕ} {last : N.Bool} {n : ℕ} → front_packet room max wire xs ≡ N.WholePacket body last n rest
    → length rest < length xs
unfolding front_packet
rest_shorter = grind (arith, N.length-drop)

same_after : (F G : ℕ → ℕ → List ℕ → N.Coming) (wire place : ℕ) {p : N.FrontPacket} → ((body rest : List ℕ) (n : ℕ) → p ≡ N.WholePacket body N.false n rest
    → F (wire + n) (place + length body) rest ≡ G (wire + n) (place + length body) rest) → N.after_packet F wire place p ≡ N.after_packet G wire place p
same_after F G = grind arith

message-fuel : (room max n m wire place : ℕ) (xs : List ℕ) → length xs < n → length xs < m → message room max n wire place xs ≡ message room max m wire place xs
unfolding message
message-fuel room max N.zero m wire place xs h k = grind arith
message-fuel room max (suc n) N.zero wire place xs h k = grind arith
message-fuel room max (suc n) (suc m) wire place xs h k = same_after (message room max n) (message room max m) wire place
    (λ body rest l e. (let lt = rest_shorter room max wire xs e in message-fuel room max n m (wire + l) _ rest (omega arith) (omega arith)))

module _ {R : Type 0} (remaining : R → N.Option (List ℕ)) (p q : N.PayloadOf R) (body : List ℕ) (needs : N.NeedsPacket p) where
  pub advance_ok : {h : N.Header} → q.packet.now.room ≡ p.packet.now.room → q.max_wire ≡ p.max_wire → q.wire ≡ p.wire + h.length → q.place ≡ p.place
      → q.last ≡ h.last → q.stopped ≡ p.stopped → buffered q ≡ body
      → N.ReadsPacket p.packet.now.room p.max_wire p.wire (device remaining p.from.now) (device remaining q.from.now) body (N.Ok h)
      → Takes (seen remaining p) (seen remaining q) [] 1
  unfolding coming_of message
  advance_ok = grind (arith, rest_shorter, message-fuel, N.drop_of_length-le)

  pub advance_err : {e : N.Fault} → N.ReadsPacket p.packet.now.room p.max_wire p.wire (device remaining p.from.now) (device remaining q.from.now) body (N.Err e)
      → Ends (seen remaining p) (seen remaining q) [] (record { fault = e; place = N.Wire p.wire })
  unfolding coming_of message
  advance_err = grind (arith, N.drop_of_length-le)

hand : (room max wire place : ℕ) (last : N.Bool) (hs bs xs : List ℕ)
    → coming_of room max wire place last None (hs ++ bs) xs ≡ N.before hs (coming_of room max wire (place + length hs) last None bs xs)
unfolding coming_of
hand = grind (arith, N.common_steps)

-- Bytes that lie ready are handed out.
pub further_takes : {R : Type 0} (remaining : R → N.Option (List ℕ)) (p : N.PayloadOf R) (n m : ℕ) → n ≤ length (buffered p) → p.stopped ≡ None
    → Takes (seen remaining p) (seen remaining (N.further p n)) (take n (buffered p)) m
further_takes remaining p n =
    let split : buffered p ≡ take n (buffered p) ++ buffered (N.further p n) = N.sym (rw (← N.drop-drop) (N.take-append-drop n _)) in
    grind (arith, hand, N.length-take-le)

pub Takes-none : (a : N.PayloadView) (n : ℕ) → Takes a a [] n
Takes-none = grind arith

pub Takes-more : (a b : N.PayloadView) (hs : List ℕ) (n m : ℕ) → n ≤ m → Takes a b hs n → Takes a b hs m
Takes-more = grind arith

needs_joined : (a b : N.PayloadView) (r s hs : List ℕ) {n m j : ℕ} → n ≤ length hs + m → N.Needs a r n → N.Needs b s m
    → ((zs : List ℕ) → a.future (r ++ zs) ≡ N.before hs (b.future zs)) → j < length (r ++ s) → length (a.future (take j (r ++ s))).bytes < length hs + m
needs_joined a b r s hs {j} le p q f lt = elim (N.dec_le (length r) j) [
  | yes many ↦ (let all : length r + (j - length r) ≡ j = omega arith in rw (← all, N.take-append-add, f, N.length-append) (grind (arith, N.length-append)))
  | no few ↦ rw (N.take-append-le j r s (omega arith)) (omega arith)
]

pub Takes-trans : (a b c : N.PayloadView) (hs bs : List ℕ) (n m : ℕ) → n ≤ length hs + m → Takes a b hs n → Takes b c bs m
    → Takes a c (hs ++ bs) (length hs + m)
Takes-trans a b c hs bs n m le p q =
    let follows : (zs : List ℕ) → a.future _ ≡ N.before (hs ++ bs) (c.future zs) = grind (arith, N.append_assoc) in
    let needs = λ (j : ℕ) (lt : j < length _). needs_joined a b _ _ _ le p.3 q.3 p.1.1 lt in (
      p.0 ++ q.0,
      (N.Consumes-trans a.left b.left c.left p.0 q.0 p.1.0 q.1.0, follows),
      omega (arith, N.length-append p.0 q.0),
      needs,
      Stays-trans _ _ _ _ _ p.4 q.4,
    )

pub Ends-after : (a b c : N.PayloadView) (hs bs : List ℕ) (n : ℕ) (e : N.Stop) → Takes a b hs n → Ends b c bs e → Ends a c (hs ++ bs) e
Ends-after a b c hs bs n e p (inl y) = inl (p.0 ++ y.0, grind (arith, N.Consumes-trans), grind (arith, N.append_assoc), Stays-trans _ _ _ _ _ p.4 y.3)
Ends-after a b c hs bs n e p (inr (inl y)) = grind (arith, N.common_steps)
Ends-after a b c hs bs n e p (inr (inr y)) = grind (arith, N.common_steps)

module _ {R : Type 0} (remaining : R → N.Option (List ℕ)) (p : N.PayloadOf R) where
  pub stopped_ends : {s : N.Stop} → p.stopped ≡ N.Some s → Ends (seen remaining p) (seen remaining p) [] s
  unfolding coming_of
  stopped_ends = grind arith

  -- the last packet is used up
  pub over : p.last ≡ N.true → p.stopped ≡ None → buffered p ≡ [] → N.IsOver (seen remaining p)
  unfolding coming_of
  over el es eb = (record { fault = N.MessageEnded; place = N.Payload p.place }, N.refl, grind arith)

  pub ended_ends : p.last ≡ N.true → p.stopped ≡ None → buffered p ≡ []
      → Ends (seen remaining p) (seen remaining p) [] (record { fault = N.MessageEnded; place = N.Payload p.place })
  unfolding over
  ended_ends = grind arith

  pub not_over : p.stopped ≡ None → 0 < length (buffered p) → N.IsNotOver (seen remaining p)
  unfolding coming_of
  not_over = grind (arith, N.length-append)
