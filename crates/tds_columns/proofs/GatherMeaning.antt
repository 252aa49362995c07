-- What a description that was read spells.
use Rattle.tds_columns.proofs as N
use N.{◌≡◌, ◌∙◌, ℕ, ◌<◌, List, [], ◌∷◌, arith}
use N.ColumnMeaning.{DescribedMeans, described_step}

-- the bytes that are kept are those read
abbrev pub Keeps : N.DescriptionPart → List ℕ → Type 0
Keeps N.NoDescription b = Unit {0}
Keeps d b = N.description_bytes d ≡ b

module _ (room : ℕ) where
  kept_bytes : (d : N.DescriptionPart) (bytes : List ℕ) → N.Spelt (N.description room) N.BeforeCount bytes d → Keeps d bytes
  kept_bytes d bytes h = N.Spelt-induct (N.description room) Keeps (grind (arith, N.bare_type)) N.BeforeCount N.refl bytes d h

  -- what is read has its meaning
  pub described_means : (d : N.DescriptionPart) (bytes : List ℕ) → N.AreBytes bytes → N.Spelt (N.description room) N.BeforeCount bytes d
      → DescribedMeans room d bytes
  described_means d bytes are h = N.Spelt-induct (N.description room) (λ t b. N.AreBytes b
      → DescribedMeans room t b) (λ t b e m n all. described_step room t b e (N.AreBytes-back b e all) (m (N.AreBytes-front b e all)) n) N.BeforeCount
      (λ _. N.refl) bytes d h are

-- a description that was read whole
pub gathers : {room : ℕ} {a b : N.PayloadView} {place place' peak : ℕ} {area : N.Space} {columns : List N.Column} → N.AreBytes area.bytes
    → N.Describes room N.BeforeCount a b place place' peak area (N.WholeDescription area.bytes columns)
    → N.Takes a b area.bytes (N.length area.bytes) × N.SpellsDescription room columns area.bytes
gathers {room} are x =
    let same = kept_bytes room (N.WholeDescription _ _) x.reads.bytes x.reads.spelt in
    rw same (x.reads.takes, (described_means room (N.WholeDescription _ _) x.reads.bytes (rw same at are) x.reads.spelt).1)

-- a Count that says that there is no metadata
pub gathers_none : {a b : N.PayloadView} {before after : N.Space} → before.bytes ≡ [] → N.TakesInto a b before after 2 → N.AreBytes after.bytes
    → N.little_number 2 after.bytes ≡ 0xFFFF → N.Takes a b (255 ∷ 255 ∷ []) 2
gathers_none = grind (arith, N.ByteLemmas.two_bytes)

-- an unfinished description has the bytes that were read
unfinished : (d : N.DescriptionPart) (b : List ℕ) → Keeps d b → 0 < N.described_size d → N.description_bytes d ≡ b
unfinished = grind arith

-- where a description stops the bytes kept are those of the whole elements
pub gather_stops : {room : ℕ} {a b : N.PayloadView} {place peak : ℕ} {area : N.Space} {stop : N.Stop}
    → N.StopsDescribing room N.BeforeCount a b place peak area stop → N.GatherStops room a b place peak area stop
gather_stops {room} x =
    let some : 0 < N.described_size x.at = grind arith in
    record { describing = x; begins = x.kept ∙ unfinished x.at x.stops.bytes (kept_bytes room x.at x.stops.bytes x.stops.spelt) some }
