-- An element that is read to the end of an area, under any grammar.
use Rattle.tds_columns.proofs as N
use N.{◌≡◌, ◌∙◌, ℕ, ◌+◌, ◌-◌, ◌<◌, List, length, arith, Space}

module _ {S : Type 0} {g : N.Grammar S N.Fault} {s : S} {a b : N.PayloadView} {before after : Space} where
  -- it is read whole, without a fault
  abbrev pub reads_into : {n : ℕ} {t : S} (e : N.TakesInto a b before after n) → 0 < n → g.size s ≡ n → g.fault s e.element ≡ N.None
      → g.add s e.element ≡ t → N.Reads g s a b t
  reads_into {t} e some size free leads =
      N.reads_one g s a b e.element t (grind arith) (rw e.whole e.takes) leads

  -- it is refused
  pub refused_into : {n place : ℕ} {fault : N.Fault} (e : N.TakesInto a b before after n) → 0 < n → g.size s ≡ n → g.fault s e.element ≡ N.Some fault
      → N.StopsReading g s a b place s (record { fault = fault; place = N.Payload place })
  refused_into = grind (arith, N.refused_at_once)

  -- it is cut
  pub cut_into : {n place : ℕ} {stop : N.Stop} → N.EndsInto a b before after place n stop → g.size s ≡ n → g.end_fault s ≡ N.Some N.MessageEnded
      → N.StopsReading g s a b place s stop
  cut_into e size end = N.cut_at_once g s a b _ e.part e.own _ (rw size e.fewer) e.ends (grind arith)

-- an area that grew is cut back
pub shrunk : (before : Space) (element : List ℕ) {after cut : Space} {start n : ℕ} → after ≡ N.appended before element → length element ≡ n
    → start ≡ length before.bytes → cut ≡ N.holding after (N.take start after.bytes) → (cut.bytes ≡ before.bytes)
    × (cut.peak ≡ N.max before.peak (length before.bytes + n))
shrunk = grind (arith, N.common_steps)

module _ {a b : N.PayloadView} {before after : Space} {n : ℕ} where
  -- what stands in the area after what it had
  pub element_at : {bytes : List ℕ} {start : ℕ} (e : N.TakesInto a b before after n) → bytes ≡ after.bytes → start ≡ length before.bytes
      → N.take (length bytes - start) (N.drop start bytes) ≡ e.element
  element_at = grind (arith, N.common_steps)

  -- a byte of it
  pub byte_at : {bytes : List ℕ} {start : ℕ} (e : N.TakesInto a b before after n) (k : ℕ) → bytes ≡ after.bytes → start ≡ length before.bytes
      → N.slice_index bytes (start + k) ≡ N.slice_index e.element k
  byte_at = grind (arith, N.common_steps)

  -- the area's bytes then
  pub length_into : N.TakesInto a b before after n → length after.bytes ≡ length before.bytes + n
  length_into = grind (arith, N.length-append)
