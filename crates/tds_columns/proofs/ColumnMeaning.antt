-- What the bytes that lead to a part of a description spell.
use Rattle.tds_columns.proofs as N
use N.{◌==◌, if◌then◌else◌, ◌≡◌, ◌≢◌, ℕ, ◌+◌, ◌*◌, ◌/◌, ◌%◌, ◌<◌, ◌≤◌, List, [], ◌∷◌, ◌++◌, length, ◌∙◌, ap, arith, Some, None, Column, InColumn, choose}
use N.ByteLemmas.{last_of, two_bytes}

pub not_long : (room so_far least : ℕ) → N.too_long room so_far least ≡ None → so_far + least ≤ room
not_long = grind arith

-- a Count that isn't refused is at least 1
pub not_zero : (room c : ℕ) → N.count_fault room c ≡ None → 0 < c
not_zero = grind arith

-- and unless it is that of no metadata the room has the least bytes of its columns
pub room_for : (room c : ℕ) → c ≢ 0xFFFF → N.count_fault room c ≡ None → 2 + 8 * c ≤ room
room_for = grind arith

-- a type byte that is accepted
pub known_type : (i byte : ℕ) (o : N.Option ℕ) (y : N.Option N.Fault) → N.first_of_two (N.type_fault i byte o) y ≡ None → (n : ℕ) × (o ≡ Some n)
known_type = grind arith

-- type information that is accepted
pub some_kind : (index : ℕ) (o : N.Option N.Kind) → (if N.is_some o then None else Some (N.BadTypeInfo index)) ≡ None → N.is_some o ≡ N.true
some_kind = grind arith

-- the part of a column that is read, at the end of these bytes in this room
abbrev pub ColumnMeans : ℕ → List ℕ → N.ColumnPlace → List ℕ → Type 0
ColumnMeans room b N.ColumnHead part = part ≡ []
ColumnMeans room b (N.ColumnInfo byte) part = (ignored : List ℕ) × (part ≡ ignored ++ byte ∷ []) × (length ignored ≡ 6) × (n : ℕ)
    × (N.rest_length byte ≡ Some n)
ColumnMeans room b (N.NameCount kind) part = (ignored : List ℕ) × (info : List ℕ) × (part ≡ ignored ++ info) × (length ignored ≡ 6) × N.IsTypeInfo kind info
ColumnMeans room b (N.NameUnits kind n) part = (ignored : List ℕ) × (info : List ℕ) × (units : ℕ) × (part ≡ (ignored ++ info) ++ units ∷ [])
    × (length ignored ≡ 6) × N.IsTypeInfo kind info × (n ≡ 2 * units) × (units < 256) × (length b + n ≤ room)

pub record WithinMeans (room : ℕ) (bytes : List ℕ) (count : ℕ) (cols : List Column) (place : N.ColumnPlace) (b : List ℕ) : Type 0 where
  pub same : bytes ≡ b
  pub some : 0 < count
  pub most : count < 65535
  pub front : List ℕ
  pub part : List ℕ
  pub spelt : b ≡ (count % 256 ∷ count / 256 ∷ []) ++ (front ++ part)
  pub whole : N.SpellsColumns cols front
  pub fewer : length cols < count
  pub begun : ColumnMeans room b place part

abbrev pub DescribedMeans : ℕ → N.DescriptionPart → List ℕ → Type 0
DescribedMeans room N.BeforeCount b = b ≡ []
DescribedMeans room N.NoDescription b = b ≡ 255 ∷ 255 ∷ []
DescribedMeans room (InColumn bytes count cols place) b = WithinMeans room bytes count cols place b
DescribedMeans room (N.WholeDescription bytes cols) b = (bytes ≡ b) × N.SpellsDescription room cols b

pub one_more_column : (cols : List Column) (b : List ℕ) (c : Column) (e : List ℕ) → N.SpellsColumns cols b → N.SpellsColumn c e
    → N.SpellsColumns (cols ++ c ∷ []) (b ++ e)
one_more_column [] b c e h s = grind (arith, N.append-nil)
one_more_column (d ∷ cols) b c e h s = (h.0, h.1 ++ e, ap (λ v. v ++ e) h.2 ∙ N.append_assoc h.0 h.1 e, h.3, one_more_column cols h.1 c e h.4 s)

-- the bytes go on
longer : (b e one front part : List ℕ) → b ≡ one ++ (front ++ part) → b ++ e ≡ one ++ (front ++ (part ++ e))
longer = grind (arith, N.append_assoc)

module _ (room : ℕ) where
  module _ {have : List ℕ} {count : ℕ} {cols : List Column} {place : N.ColumnPlace} {b : List ℕ} (h : WithinMeans room have count cols place b)
      (e : List ℕ) where
    -- a whole column
    with_means : (c : Column) → N.SpellsColumn c (h.part ++ e) → length (b ++ e) ≤ room → DescribedMeans room (N.with_column (have ++ e) count cols c) (b ++ e)
    with_means c col =
        let spelt = longer b e (count % 256 ∷ count / 256 ∷ []) h.front h.part h.spelt in
        let la = N.length-append cols (c ∷ []) in
        let each = one_more_column cols h.front c (h.part ++ e) h.whole col in
        grind (arith, choose, N.eq_true, N.eq_false, N.append-nil)

  units_step : (have : List ℕ) (count : ℕ) (cols : List Column) (kind : N.Kind) (b e : List ℕ) → N.AreBytes e
      → (h : WithinMeans room have count cols (N.NameCount kind) b) → N.IsNext (N.description room) (InColumn have count cols (N.NameCount kind)) e
      → DescribedMeans room (N.with_units (have ++ e) count cols kind (N.slice_index e 0)) (b ++ e)
  units_step have count cols kind b e bytes h n =
      let one = last_of 0 e n.whole in
      let spelt = longer b e (count % 256 ∷ count / 256 ∷ []) h.front h.part h.spelt in
      choose (λ s. DescribedMeans room s (b ++ e)) (N.slice_index e 0 == 0) _ _
      (grind (arith, N.length-append, N.eq_true, (with_means h e (record { kind = kind; name = [] })))) (grind (arith, N.length-append, N.nat_tests))

  -- each element keeps the meaning
  pub described_step : (d : N.DescriptionPart) (b e : List ℕ) → N.AreBytes e → DescribedMeans room d b → N.IsNext (N.description room) d e
      → DescribedMeans room (N.add_described d e) (b ++ e)
  described_step N.BeforeCount b e bytes h n =
      let t = two_bytes e n.whole bytes in
      rw h (grind (arith, choose, N.eq_false, N.eq_true))
  described_step (InColumn have count cols N.ColumnHead) b e bytes h n =
      let spelt = rw h.begun at (longer b e (count % 256 ∷ count / 256 ∷ []) h.front h.part h.spelt) in
      let one = last_of 6 e n.whole in
      grind (arith, N.bare_type, choose, N.eq_true)
  described_step (InColumn have count cols (N.ColumnInfo byte)) b e bytes h n = grind (arith, N.append_assoc, N.is_some_value, longer)
  described_step (InColumn have count cols (N.NameCount kind)) b e bytes h n = units_step have count cols kind b e bytes h n
  described_step (InColumn have count cols (N.NameUnits kind m)) b e bytes h n = grind (arith, N.append_assoc, N.length-append, (with_means h e))
  described_step d b e bytes h n = grind arith
