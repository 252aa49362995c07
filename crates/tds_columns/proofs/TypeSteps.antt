-- The type of a returned value, as it is read.
use Rattle.tds_columns.proofs as N
use N.{◌≡◌, ◌≢◌, ℕ, ◌+◌, ◌-◌, ◌≤◌, [], ◌∷◌, length, arith, Some, ◌==◌, slice_index, Reads, TypeHead, returned_type}

pub no_kind : (byte : ℕ) {rest : ℕ} (element : N.List ℕ) → N.rest_length byte ≡ Some rest → length element ≡ rest → N.kind_of (byte ∷ element) ≡ N.None
    → rest ≢ 0
no_kind = grind (arith, N.bare_type, N.nil_from_length)

module _ {o a : N.PayloadView} (head : N.List ℕ) (taken : N.WereTaken o a head) (eight : length head ≡ 8) (rest : ℕ)
    (known : N.rest_length (slice_index head 7) ≡ Some rest) where
  -- the eight bytes were taken, and lead to this state
  abbrev head_read : Reads returned_type TypeHead o a (N.with_type_byte (slice_index head 7) rest)
  head_read = N.reads_one returned_type TypeHead o a head _ (grind arith) (rw eight taken.0)
      (rw known)

  -- a stop after the eight bytes
  pub stops_after_steps : {b : N.PayloadView} {place : ℕ} {stop : N.Stop} → rest ≢ 0 → 8 ≤ place
      → N.StopsReading returned_type (N.TypeRest (slice_index head 7)) a b place (N.TypeRest (slice_index head 7)) stop → N.StopsType o b (place - 8) stop
  stops_after_steps {b} {place} some far q =
      let at : (place - 8) + length head ≡ place = omega arith in
      record {
        at = N.TypeRest (slice_index head 7);
        stops = N.stops_after returned_type TypeHead _ o a b (place - 8) _ _ head_read (grind (arith, N.ne_eqb));
      }

  -- what follows describes the kind
  pub type_whole : {b : N.PayloadView} {before after : N.Space} {kind : N.Kind} (t : N.TakesInto a b before after rest)
      → N.kind_of (slice_index head 7 ∷ t.element) ≡ Some kind → Reads returned_type TypeHead o b (N.KnownType kind)
  type_whole {b} {kind} t found = N.choose (λ s. Reads returned_type TypeHead o a s → Reads returned_type TypeHead o b (N.KnownType kind)) (rest == 0) _ _
      (λ z p. let empty = N.nil_from_length t.element (grind arith) in
      N.reads_both returned_type _ _ _ _ _ _ (rw (rw empty at found) at p)
      (grind arith))
      (λ z p. N.reads_both returned_type _ _ _ _ _ _ p (N.ElementSteps.reads_into t (omega (arith, N.eq_false rest 0 z)) (rw known) (rw found) (rw found)))
      head_read
