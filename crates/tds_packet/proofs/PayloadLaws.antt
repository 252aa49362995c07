-- A payload, as its calls leave it.
use Rattle.tds_packet.proofs as N
use N.{◌≡◌, ℕ, ◌+◌, ◌<◌, ◌≤◌, List, ◌++◌, length, Option, Ok, arith, Stop, seen, Takes, []}
use N.Words.{coming_of, message, front_packet}

-- It has not stopped, so no packet is cut.
pub between_of : {R : Type 0} (remaining : R → Option (List ℕ)) (p : N.PayloadOf R) → p.stopped ≡ N.None → N.IsBetween (seen remaining p)
unfolding coming_of message front_packet
between_of = grind arith

-- Where it has stopped, none lies ready.
pub pass_takes : {R : Type 0} (remaining : R → Option (List ℕ)) (p : N.PayloadOf R) {n : ℕ} {o : Option Stop} → p.stopped ≡ o → N.IsUsedUp p o
    → n ≤ length (N.buffered p) → Takes (seen remaining p) (seen remaining (N.further p n)) (N.take n (N.buffered p)) 0
pass_takes = grind (arith, N.Futures.further_takes, N.length-drop)

-- A call that succeeded was on no payload that had stopped.
pub not_again : {A : Type 0} (o : Option Stop) (a : A) (P Q : Stop → Type 0) → N.IfSome o (λ stop. (Ok a ≡ N.Err stop) × P stop) → N.IfSome o Q
not_again o a P Q = grind arith

-- What a call says of its answer, where that is known.
pub at_ok : {A : Type 0} (r : N.Result A Stop) (a : A) (P : A → Type 0) (Q : Stop → Type 0) → r ≡ Ok a → N.MatchResult r P Q → P a
at_ok = grind arith

pub at_err : {A : Type 0} (r : N.Result A Stop) (stop : Stop) (P : A → Type 0) (Q : Stop → Type 0) → r ≡ N.Err stop → N.MatchResult r P Q → Q stop
at_err = grind arith

-- A piece of at least a byte was taken after so many bytes.
pub takes_piece : {R : Type 0} (remaining : R → Option (List ℕ)) (o s t : N.PayloadOf R) (front bytes : List ℕ) {i : ℕ} → length front ≡ i
    → 0 < length bytes → Takes (seen remaining o) (seen remaining s) front i → Takes (seen remaining s) (seen remaining t) bytes 1
    → Takes (seen remaining o) (seen remaining t) (front ++ bytes) (i + length bytes)
takes_piece remaining o s t front bytes {i} len some p q =
    rw len at (N.Futures.Takes-trans (seen remaining o) _ _ front bytes i _ (omega arith) p (N.Futures.Takes-more (seen remaining s) _ bytes 1 _ some q))

-- The payload stopped after so many bytes.
pub ends_there : {R : Type 0} (remaining : R → Option (List ℕ)) (o s t : N.PayloadOf R) {front : List ℕ} {n : ℕ} {stop : Stop}
    → Takes (seen remaining o) (seen remaining s) front n → N.Ends (seen remaining s) (seen remaining t) [] stop
    → N.Ends (seen remaining o) (seen remaining t) front stop
ends_there remaining o s t {front} {n} {stop} p q = rw N.append-nil at (N.Futures.Ends-after (seen remaining o) _ (seen remaining t) front [] n stop p q)
