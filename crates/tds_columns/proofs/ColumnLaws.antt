-- What a description's spelling is read as.
use Rattle.tds_columns.proofs as N
use N.{if◌then◌else◌, ◌≡◌, ℕ, ◌+◌, ◌-◌, ◌*◌, ◌/◌, ◌%◌, ◌<◌, ◌≤◌, List, [], ◌∷◌, ◌++◌, length, arith, length-append, Some, ◌==◌, Kind, Spelt, Column, InColumn}
use N.{description}

-- the bytes of a TYPE_INFO: its type byte and the rest
pub record ByteAndRest (kind : Kind) (info : List ℕ) : Type 0 where
  pub byte : ℕ
  pub rest : List ℕ
  pub spelt : info ≡ byte ∷ rest
  pub whole : N.rest_length byte ≡ Some (length rest)
  pub allowed : N.kind_of (byte ∷ rest) ≡ Some kind

pub byte_and_rest : (kind : Kind) (info : List ℕ) → N.IsTypeInfo kind info → ByteAndRest kind info
byte_and_rest = grind arith

pub length-SpellsColumn : (c : Column) (bytes : List ℕ) (h : N.SpellsColumn c bytes) → length bytes ≡ (6 + length h.info) + (1 + length c.name)
length-SpellsColumn = grind (arith, length-append)

-- a column takes at least 8 bytes
least-SpellsColumns : (cs : List Column) (bytes : List ℕ) → N.SpellsColumns cs bytes → 8 * length cs ≤ length bytes
least-SpellsColumns [] bytes h = omega arith
least-SpellsColumns (c ∷ cs) bytes h = grind (arith, length-append, (least-SpellsColumns cs h.1 h.4))

-- a description after the last of these columns
abbrev pub after_columns : List ℕ → ℕ → List Column → N.DescriptionPart
after_columns bytes count columns = if length columns == count then N.WholeDescription bytes columns else InColumn bytes count columns N.ColumnHead

-- a further column comes
pub at_column : (bytes : List ℕ) (count : ℕ) (columns : List Column) → length columns < count
    → after_columns bytes count columns ≡ InColumn bytes count columns N.ColumnHead
at_column = grind arith

-- a Count of columns that fit
count_free : (room n : ℕ) (bytes : List ℕ) → 0 < n → n < 65535 → 2 + 8 * n ≤ room → (N.count_fault room n ≡ N.None)
    × (N.with_count bytes n ≡ after_columns bytes n [])
count_free = grind arith

module _ (room : ℕ) where
  module _ (b : List ℕ) (count : ℕ) (cols : List Column) where
    -- up to the name's count
    head_is_read : (ignored : List ℕ) (byte n : ℕ) → length ignored ≡ 6 → N.rest_length byte ≡ Some n
        → ((length b + 7) + ((n + 1) + 8 * (count - (length cols + 1)))) ≤ room
        → Spelt (description room) (InColumn b count cols N.ColumnHead) (ignored ++ byte ∷ []) (N.with_type (b ++ (ignored ++ byte ∷ [])) count cols byte n)
    head_is_read = grind (arith, N.Spelt-step, N.get_or-append_seam, length-append)

    info_is_read : (byte : ℕ) (rest : List ℕ) (kind : Kind) → N.rest_length byte ≡ Some (length rest) → N.kind_of (byte ∷ rest) ≡ Some kind
        → Spelt (description room) (N.with_type b count cols byte (length rest)) rest (InColumn (b ++ rest) count cols (N.NameCount kind))
    info_is_read byte [] kind n k = grind (arith, N.append-nil)
    info_is_read byte (x ∷ xs) kind n k = grind (arith, N.Spelt-step, N.choose_false)

    units_are_read : (kind : Kind) (units : ℕ) → (length b + 1) + (2 * units + 8 * (count - (length cols + 1))) ≤ room
        → Spelt (description room) (InColumn b count cols (N.NameCount kind)) (units ∷ []) (N.with_units (b ++ units ∷ []) count cols kind units)
    units_are_read = grind (arith, N.Spelt-step)

    name_is_read : (kind : Kind) (units : ℕ) (name : List ℕ) → length name ≡ 2 * units → Spelt (description room) (N.with_units b count cols kind units) name
        (N.with_column (b ++ name) count cols (record { kind = kind; name = name }))
    name_is_read kind units [] l = grind (arith, N.append-nil)
    name_is_read kind units (x ∷ xs) l = grind (arith, N.Spelt-step)

  -- what spells a column is read as it
  pub column_is_read : (b : List ℕ) (count : ℕ) (cols : List Column) (c : Column) (bytes : List ℕ)
      → (length b + length bytes) + 8 * (count - (length cols + 1)) ≤ room → N.SpellsColumn c bytes
      → Spelt (description room) (InColumn b count cols N.ColumnHead) bytes (N.with_column (b ++ bytes) count cols c)
  column_is_read b count cols c bytes fits h =
      let type = byte_and_rest c.kind h.info h.kind in
      let head = h.ignored ++ type.byte ∷ [] in
      let li : length h.info ≡ 1 + length type.rest = grind arith in
      let l = length-SpellsColumn c bytes h in
      let l2 : length ((b ++ head) ++ type.rest) ≡ length b + (7 + length type.rest) = grind (arith, length-append) in
      let all = simp N.append_assoc at (N.Spelt-append (description room) _ _ _ _ _ (head_is_read b count cols h.ignored type.byte _ h.six type.whole (omega
      (arith, l, li, fits)))
      (N.Spelt-append (description room) _ _ _ _ _ (info_is_read (b ++ head) count cols type.byte type.rest c.kind type.whole type.allowed) (N.Spelt-append
      (description room) _ _ _ _ _ (units_are_read _ count cols c.kind h.units (omega (arith, l, li, l2, h.counted, fits)))
      (name_is_read _ count cols c.kind h.units c.name h.counted)))) in
      rw (h.spelt, type.spelt) (simp N.append_assoc all)

  all_are_read : (b : List ℕ) (count : ℕ) (cols cs : List Column) (bytes : List ℕ) → count ≡ length cols + length cs → length b + length bytes ≤ room
      → N.SpellsColumns cs bytes → Spelt (description room) (after_columns b count cols) bytes (N.WholeDescription (b ++ bytes) (cols ++ cs))
  all_are_read b count cols [] bytes n fits h = grind (arith, N.append-nil, N.add-zero, N.Spelt-none, N.nat_tests)
  all_are_read b count cols (c ∷ cs) bytes n fits h =
      let la : length bytes ≡ length h.0 + length h.1 = rw (h.2, length-append) in
      let more = rw length-append at (all_are_read (b ++ h.0) count (cols ++ c ∷ []) cs h.1 (grind (arith, length-append))
      (simp length-append (omega (arith, la, fits))) h.4) in
      rw (at_column b count cols (omega (arith, n)), h.2) (simp N.append_assoc at (N.Spelt-append (description room) _ _ _ _ _
      (column_is_read b count cols c h.0 (omega (arith, la, least-SpellsColumns cs h.1 h.4, n, fits)) h.3) more))

  pub columns_are_read : (b : List ℕ) (count : ℕ) (cols : List Column) (c : Column) (cs : List Column) (bytes : List ℕ)
      → count ≡ length cols + (1 + length cs) → length b + length bytes ≤ room → N.SpellsColumns (c ∷ cs) bytes
      → Spelt (description room) (InColumn b count cols N.ColumnHead) bytes (N.WholeDescription (b ++ bytes) (cols ++ c ∷ cs))
  columns_are_read b count cols c cs bytes n fits h =
      rw (at_column b count cols (omega arith)) at (all_are_read b count cols (c ∷ cs) bytes (omega arith) fits h)

  -- What spells a description is read as it.
  pub description_is_read : (cs : List Column) (bytes : List ℕ) → N.SpellsDescription room cs bytes
      → Spelt (description room) N.BeforeCount bytes (N.WholeDescription bytes cs)
  description_is_read cs bytes h =
      let n = length cs in
      let count = n % 256 ∷ n / 256 ∷ [] in
      let two : N.little count ≡ n = omega arith in
      let la : length bytes ≡ 2 + length h.rest = grind arith in
      let free = count_free room n count h.some h.most (grind (arith, least-SpellsColumns)) in
      rw h.spelt (N.Spelt-append (description room) _ _ _ _ _ (N.Spelt-step (description room) N.BeforeCount count (after_columns count n [])
      (omega arith) N.refl (rw two free.0) (rw two free.1)) (all_are_read count n [] cs h.rest (omega arith) (omega arith) h.each))
