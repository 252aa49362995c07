-- Calls that read by a grammar, one after another.
use Rattle.tds_packet.proofs as N
use N.{◌≡◌, ◌∙◌, ℕ, ◌+◌, ◌<◌, List, [], ◌++◌, length, arith, Stop, PayloadView, Takes, Reads}
use N.ElementLaws.{Spelt-none, Spelt-append, Spelt-one}

-- bytes taken by two calls
pub takes_both : (a b c : PayloadView) (xs ys : List ℕ) → Takes a b xs (length xs) → Takes b c ys (length ys) → Takes a c (xs ++ ys) (length (xs ++ ys))
takes_both a b c xs ys p q = rw N.length-append (N.Futures.Takes-trans a b c _ _ _ _ (omega arith) p q)

-- bytes taken by two calls, of which the second handed out more than it needed
pub takes_ahead : (a b c : PayloadView) (xs ys ahead : List ℕ) → Takes a b xs (length xs) → Takes b c (ys ++ ahead) (length ys)
    → Takes a c ((xs ++ ys) ++ ahead) (length (xs ++ ys))
takes_ahead a b c xs ys ahead p q = rw (N.append_assoc, N.length-append) (N.Futures.Takes-trans a b c _ _ _ _ (omega arith) p q)

-- no bytes more
pub add_none : (n : ℕ) → n + 0 ≡ n
add_none = omega arith

-- a call of many bytes and a cut element of an open description stop alike
pub began_is_cut : (place : ℕ) (ended : N.Option N.Fault) (own stop : Stop) → ended ≡ N.Some N.MessageEnded → stop ≡ N.began_at place own
    → N.IsCutStop place ended own stop
began_is_cut = grind arith

module _ {S : Type 0} (g : N.Grammar S N.Fault) where
  abbrev pub reads_none : (s : S) (a : PayloadView) → Reads g s a a s
  reads_none s a = record { bytes = []; spelt = Spelt-none g s; takes = N.Futures.Takes-none a 0 }

  -- an element is read whole, without a fault
  abbrev pub reads_one : (s : S) (a b : PayloadView) (element : List ℕ) (t : S) → N.IsNext g s element → Takes a b element (length element)
      → g.add s element ≡ t → Reads g s a b t
  reads_one s a b element t next takes to = record { bytes = element; spelt = rw to at (Spelt-one g s _ next); takes = takes }

  abbrev pub reads_both : (s t u : S) (a b c : PayloadView) → Reads g s a b t → Reads g t b c u → Reads g s a c u
  reads_both s t u a b c p q = record {
    bytes = p.bytes ++ q.bytes;
    spelt = Spelt-append g s _ t _ u p.spelt q.spelt;
    takes = takes_both a b c _ _ p.takes q.takes;
  }

  -- what stops a call stops one that began before it
  pub stops_after : (s t : S) (a b c : PayloadView) (place : ℕ) (at : S) (stop : Stop) → (p : Reads g s a b t)
      → N.StopsReading g t b c (place + length p.bytes) at stop → N.StopsReading g s a c place at stop
  stops_after s t a b c place at stop p q =
      record {
        bytes = p.bytes ++ q.bytes;
        spelt = grind (arith, Spelt-append);
        cause = elim q.cause [
          | N.inl x ↦
              (let r = x.0 in
              let took = rw (← (N.append_assoc p.bytes q.bytes r.element)) at (takes_ahead a b c _ _ _ p.takes r.takes) in
              let next : N.RefusesNext g a c (p.bytes ++ q.bytes) at stop.fault =
              record { element = r.element; ahead = r.ahead; some = r.some; whole = r.whole; first = r.first; takes = took; between = r.between } in
              N.inl (next, grind (arith, N.length-append)))
          | N.inr x ↦
              (let ends = rw (← (N.append_assoc p.bytes q.bytes x.part)) at (N.Futures.Ends-after a b c _ _ _ _ p.takes x.ends) in
              N.inr (record { part = x.part; cut = x.cut; own = x.own; ends = ends; stop_is = grind (arith, N.length-append) }))
        ];
      }

  -- the first element is refused
  pub refused_at_once : (s : S) (a b : PayloadView) (place : ℕ) (element : List ℕ) (fault : N.Fault) → 0 < length element → length element ≡ g.size s
      → g.fault s element ≡ N.Some fault → Takes a b element (length element) → N.IsBetween b
      → N.StopsReading g s a b place s (record { fault = fault; place = N.Payload place })
  refused_at_once s a b place element fault some whole first takes between =
      let refused : N.RefusesNext g a b [] s fault = grind (arith, N.append-nil) in
      grind arith

  -- the payload stopped in the first element
  pub cut_at_once : (s : S) (a b : PayloadView) (place : ℕ) (part : List ℕ) (own stop : Stop) → length part < g.size s → N.Ends a b part own
      → N.IsCutStop place (g.end_fault s) own stop → N.StopsReading g s a b place s stop
  cut_at_once = grind arith
