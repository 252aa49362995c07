-- What is read inside a greater grammar.
use Rattle.tds_packet.proofs as N
use N.{◌≡◌, ℕ, ◌<◌, List, [], ◌∷◌, ◌++◌, arith, IsNext}
use N.ElementLaws.{Inside, Inside-Spelt, Spelt-append, Spelt-none, Spelt-one}

-- a state with a next element has some bytes to come
pub next_some : {S : Type 0} (g : N.Grammar S N.Fault) (s : S) (element : List ℕ) → IsNext g s element → 0 < g.size s
next_some = omega arith

module _ {S T : Type 0} (small : N.Grammar S N.Fault) (big : N.Grammar T N.Fault) (lift : S → T) (is : Inside small big lift) where
  -- an element of the smaller grammar is one of the greater
  pub next_inside : (s : S) (element : List ℕ) → 0 < small.size s → IsNext small s element → IsNext big (lift s) element
  next_inside = grind arith

  -- what is read by the smaller grammar is read by the greater
  abbrev pub reads_inside : (from : S) (a b : N.PayloadView) (to : S) → N.Reads small from a b to → N.Reads big (lift from) a b (lift to)
  reads_inside from a b to r = record { bytes = r.bytes; spelt = Inside-Spelt _ _ _ is _ _ to r.spelt; takes = r.takes }

  -- where the smaller grammar's reading stops, so does the greater one's
  pub stops_inside : (from : S) (a b : N.PayloadView) (place : ℕ) (at : S) (stop : N.Stop) → big.end_fault (lift at) ≡ small.end_fault at
      → N.StopsReading small from a b place at stop → N.StopsReading big (lift from) a b place (lift at) stop
  stops_inside from a b place at stop end r = record {
    bytes = r.bytes;
    spelt = grind (arith, Inside-Spelt);
    cause = elim r.cause [ N.inl x ↦ N.inl (grind arith) | N.inr x ↦ N.inr (grind arith) ];
  }

  -- the last element of what was read
  pub record LastInside (from : S) (bytes : List ℕ) (to : S) : Type 0 where
    pub at : S
    pub front : List ℕ
    pub element : List ℕ
    pub joined : front ++ element ≡ bytes
    pub size : 0 < small.size at
    pub spelt : N.Spelt big (lift from) front (lift at)
    pub next : IsNext big (lift at) element
    pub to_is : big.add (lift at) element ≡ lift to

  pub last_inside : (from : S) (bytes : List ℕ) (to : S) → N.Spelt small from bytes to → 0 < N.length bytes → LastInside from bytes to
  last_inside from bytes to spelt = (N.ElementLaws.Spelt-induct small (λ s b. N.Spelt small from b s × (0 < N.length b → LastInside from b s))
      (grind (arith, Inside-Spelt, Spelt-append, Spelt-one)) from (grind arith) bytes to spelt).1
