-- The elements of a description, as they are read into its area.
use Rattle.tds_columns.proofs as N
use N.{◌≡◌, ◌≢◌, ◌∙◌, ℕ, ◌+◌, ◌<◌, ◌≤◌, List, [], length, refl, ap, arith, Some, None, Ok, if◌then◌else◌, Space, Stop, PayloadView, Column, DescriptionPart}
use N.{span, Describes}
use N.ElementSteps.{cut_into, reads_into, refused_into, shrunk}

-- a state that something follows
open_state : (s : DescriptionPart) (n : ℕ) → N.described_size s ≡ n → 0 < n → (N.described_end s ≡ Some N.MessageEnded)
    × (span s ≡ length (N.description_bytes s) + n)
open_state = grind arith

-- the bytes of an element are within what it leads to
spans : (room : ℕ) (s : DescriptionPart) (e : List ℕ) → N.IsNext (N.description room) s e
    → length (N.description_bytes s) + length e ≤ span (N.add_described s e)
spans = grind (arith, N.bare_type, N.length-append)

module _ {room : ℕ} {s : DescriptionPart} {a b : PayloadView} {before after : Space} where
  -- the next element is cut
  pub description_cut : {place n : ℕ} {stop : Stop} → N.EndsInto a b before after place n stop → N.described_size s ≡ n
      → before.bytes ≡ N.description_bytes s → N.StopsDescribing room s a b place before.peak after stop
  description_cut {n} e size kept =
      let o = open_state s n size (omega arith) in
      grind (arith, cut_into, N.le_refl)

  -- the next element is read whole, without a fault
  pub description_read : {kept : Space} {place place' n : ℕ} {to : DescriptionPart} (t : N.TakesInto a b before after n) → 0 < n → N.described_size s ≡ n
      → N.described_fault room s t.element ≡ None → N.add_described s t.element ≡ to → place' ≡ place + n
      → before.bytes ≡ N.description_bytes s → kept.peak ≡ after.peak → kept.bytes ≡ N.description_bytes to
      → Describes room s a b place place' before.peak kept to
  description_read {n} t some size free leads at had peak bytes =
      let within = rw (leads, t.whole) at (spans room s t.element (grind arith))
      in
      record {
        reads = reads_into t some size free leads;
        place_is = rw t.whole at;
        kept = bytes;
        bound = rw (peak, t.stands) (omega (arith, N.length-append before.bytes t.element, t.whole, within, ap length had));
        further = omega (arith, within, (open_state s n size some).1);
      }

  -- the next element is read whole, and refused
  pub description_refused : {cut : Space} {place n start : ℕ} {fault : N.Fault} {stop : Stop} (t : N.TakesInto a b before after n) → 0 < n → N.described_size s
      ≡ n
      → N.described_fault room s t.element ≡ Some fault → before.bytes ≡ N.description_bytes s → start ≡ length before.bytes
      → cut ≡ N.holding after (N.take start after.bytes) → stop ≡ record { fault = fault; place = N.Payload place }
      → N.StopsDescribing room s a b place before.peak cut stop
  description_refused {n} t some size first kept at is stops =
      let cut = shrunk before t.element t.stands t.whole at is in
      record { at = s; stops = rw stops (refused_into t some size first); kept = cut.0 ∙ kept; bound = grind arith; further = N.le_refl (span s) }

module _ {room : ℕ} {s t : DescriptionPart} {a b c : PayloadView} {p q k : ℕ} {middle after : Space} where
  pub describes_both : {u : DescriptionPart} {r room' : ℕ} → room' ≡ room → Describes room s a b p q k middle t
      → Describes room' t b c q r middle.peak after u → Describes room s a c p r k after u
  describes_both {u} same x z = let y = rw same at z in
      record {
        reads = grind (arith, N.reads_both);
        place_is = grind (arith, N.length-append);
        kept = y.kept;
        bound = omega arith;
        further = omega arith;
      }

  pub stops_describing_after : {room' : ℕ} {stop : Stop} → room' ≡ room → Describes room s a b p q k middle t
      → N.StopsDescribing room' t b c q middle.peak after stop → N.StopsDescribing room s a c p k after stop
  stops_describing_after {stop} same x z = let y = rw same at z in
      record { at = y.at; stops = grind (arith, N.stops_after); kept = y.kept; bound = omega arith; further = omega arith }

-- what a call reads from there on is read after the first part
pub part_after : {U X : Type 0} (r : N.Result U Stop) (to : X → DescriptionPart) (c : PayloadView) (z : ℕ) (after : Space) {room : ℕ} {s t : DescriptionPart}
    {a b : PayloadView} {p q k : ℕ} {middle : Space} → middle.room ≡ room → Describes room s a b p q k middle t
    → N.MatchResult r (λ _. (x : X) × Describes middle.room t b c q z middle.peak after (to x))
    (λ stop. N.StopsDescribing middle.room t b c q middle.peak after stop)
    → N.MatchResult r (λ _. (x : X) × Describes room s a c p z k after (to x)) (λ stop. N.StopsDescribing room s a c p k after stop)
part_after (Ok _) to c z after same first h = (h.0, describes_both same first h.1)
part_after (N.Err stop) to c z after same first h = stops_describing_after same first h

-- a column that is whole adds no bytes
pub column_bytes : (bytes : List ℕ) (count : ℕ) (columns : List Column) (column : Column)
    → bytes ≡ N.description_bytes (N.with_column bytes count columns column)
column_bytes = grind arith

-- the name after its count is read, or is cut
pub name_after : {U : Type 0} (r : N.Result U Stop) (c : PayloadView) (after : Space) (place'' : ℕ) (stopped : N.Option Stop) {room count n : ℕ}
    {columns : List Column} {kind : N.Kind} {s : DescriptionPart} {a b : PayloadView} {place place' peak : ℕ} {middle : Space}
    → Describes room s a b place place' peak middle (N.InColumn middle.bytes count columns (N.NameUnits kind n)) → n ≢ 0 → stopped ≡ None
    → place'' ≡ (if N.is_ok r then place' + n else place')
    → N.MatchResult r (λ _. N.TakesInto b c middle after n) (λ stop. stopped ≡ None → N.EndsInto b c middle after place' n stop)
    → N.MatchResult r (λ _. (column : Column) × Describes room s a c place place'' peak after (N.with_column after.bytes count columns column))
    (λ stop. N.StopsDescribing room s a c place peak after stop)
name_after (Ok _) c after place'' stopped {kind} first some going at u = (
  record { kind = kind; name = u.element },
  describes_both refl first (description_read u (omega (arith, some)) refl refl (rw u.stands) at refl refl (column_bytes _ _ _ _)),
)
name_after (N.Err stop) c after place'' stopped first some going at e = stops_describing_after refl first (description_cut (e going) refl refl)

module _ {room count : ℕ} {a b : PayloadView} {before after kept : Space} {place : ℕ} (t : N.TakesInto a b before after 2) (none : before.bytes ≡ [])
    (number : count ≡ N.little_number 2 after.bytes) where
  pub count_read : {place' : ℕ} {to : DescriptionPart} → N.count_fault room count ≡ None → N.with_count after.bytes count ≡ to → place' ≡ place + 2
      → kept.peak ≡ after.peak → kept.bytes ≡ N.description_bytes to → Describes room N.BeforeCount a b place place' before.peak kept to
  count_read free leads at peak bytes = description_read t (omega arith) refl (grind arith) (grind arith) at none peak bytes

  pub count_refused : {fault : N.Fault} {stop : Stop} → N.count_fault room count ≡ Some fault → kept ≡ N.holding after []
      → stop ≡ record { fault = fault; place = N.Payload place } → N.StopsDescribing room N.BeforeCount a b place before.peak kept stop
  count_refused why = description_refused {start = 0} t (omega arith) refl (grind arith) none (rw none)
