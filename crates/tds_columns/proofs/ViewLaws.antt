-- The columns of a description lie in its bytes as it is spelt.
use Rattle.tds_columns.proofs as N
use N.{◌≡◌, ℕ, ◌+◌, ◌*◌, ◌-◌, ◌≤◌, true, List, [], ◌∷◌, ◌++◌, length, take, drop, refl, sym, arith, Some, Column}

-- ---- a column at the front

item : (front rest : List ℕ) (x n : ℕ) → n ≡ length front → N.slice_index (front ++ x ∷ rest) n ≡ x
item = grind (arith, N.get_or-append_seam)

-- what n items are followed by, and these
parted : (front rest : List ℕ) (n : ℕ) → n ≡ length front → (drop n (front ++ rest) ≡ rest) × (take n (front ++ rest) ≡ front)
parted = grind (arith, N.drop-append_seam, N.take-append_seam)

-- a column of this size lies at the front
abbrev Front : Column → ℕ → List ℕ → Type 0
Front c size bytes = (N.column_size bytes ≡ size) × (N.column_at bytes ≡ c) × (N.is_column bytes ≡ true)

laid : (c : Column) (front ignored info rest more : List ℕ) (byte units : ℕ) → front ≡ (ignored ++ info) ++ units ∷ c.name → info ≡ byte ∷ rest
    → length ignored ≡ 6 → N.rest_length byte ≡ Some (length rest) → N.kind_of (byte ∷ rest) ≡ Some c.kind → length c.name ≡ 2 * units
    → Front c (length front) (front ++ more)
laid c front ignored info rest more byte units spelt split six known kind counted =
    let tail = c.name ++ more in
    let bytes = ignored ++ byte ∷ (rest ++ units ∷ tail) in
    let head : length (ignored ++ byte ∷ rest) ≡ 7 + length rest = grind (arith, N.length-append) in
    let at6 = item ignored (rest ++ units ∷ tail) byte 6 (sym six) in
    let info_is : take (1 + length rest) (drop 6 bytes) ≡ byte ∷ rest =
    rw (parted ignored (byte ∷ (rest ++ units ∷ tail)) 6 (sym six)).0 (parted (byte ∷ rest) (units ∷ tail) (1 + length rest) (omega arith)).1 in
    let count : N.slice_index bytes (7 + length rest) ≡ units = rw N.append_assoc at (item (ignored ++ byte ∷ rest) tail units (7 + length rest) (sym head)) in
    let at8 : drop (8 + length rest) bytes ≡ tail = simp N.append_assoc at (parted ((ignored ++ byte ∷ rest) ++ units ∷ []) tail (8 + length rest)
    (omega (arith, N.length-append (ignored ++ byte ∷ rest) (units ∷ []), head))).0 in
    let same : front ++ more ≡ bytes = rw (spelt, split) (simp N.append_assoc) in
    let size : (8 + length rest) + 2 * units ≡ length front =
    rw (spelt, split) (omega (arith, N.length-append (ignored ++ byte ∷ rest) (units ∷ c.name), head, counted)) in
    let fits : length front ≤ length bytes = omega (arith, N.ap length same, N.length-append front more) in
    rw same (
      rw (at6, known, count, size),
      rw (at6, known, count, info_is, kind, at8, (parted c.name more (2 * units) (sym counted)).1),
      rw (at6, known, count, info_is, kind, size) (N.test_le (length front) (length bytes) fits),
    )

front_of : (c : Column) (front more : List ℕ) → N.SpellsColumn c front → Front c (length front) (front ++ more)
front_of = grind (arith, laid)

-- columns that are spelt lie there
columns_lie : (cs : List Column) (bytes : List ℕ) → N.SpellsColumns cs bytes → (N.columns_in (length cs) bytes ≡ cs) × (N.are_columns (length cs) bytes ≡ true)
columns_lie [] bytes h = (refl, refl)
columns_lie (c ∷ cs) bytes h = grind (arith, N.drop-append_seam, (front_of c h.0 h.1 h.3), (columns_lie cs h.1 h.4))

-- a description that is spelt shows its columns
pub description_shows : (room : ℕ) (columns : List Column) (bytes : List ℕ) → N.SpellsDescription room columns bytes → (N.columns_of bytes ≡ columns)
    × (N.is_described bytes ≡ true) × (N.little_number 2 bytes ≡ length columns)
description_shows = grind (arith, columns_lie)

-- ---- what a whole column at the front allows

pub length_columns : (n : ℕ) (bytes : List ℕ) → length (N.columns_in n bytes) ≡ n
length_columns N.zero bytes = refl
length_columns (N.suc n) bytes = omega (arith, length_columns n (drop (N.column_size bytes) bytes))

-- the kind that a TYPE_INFO names
named_of : (k : N.Kind) (b : ℕ) (rest : List ℕ) → N.kind_of (b ∷ rest) ≡ Some k → N.named_kind b rest ≡ Some k
named_of = grind arith

-- a whole column at the front
pub record Lies (bytes : List ℕ) : Type 0 where
  pub kind : N.Kind
  pub enough : N.column_size bytes ≤ length bytes
  pub known : N.rest_length (N.slice_index bytes 6) ≡ Some (N.rest_size bytes)
  pub named : N.named_kind (N.slice_index bytes 6) (take (N.rest_size bytes) (drop 7 bytes)) ≡ Some kind
  pub at : N.column_at bytes ≡ record { kind = kind; name = take (N.name_size bytes) (drop (8 + N.rest_size bytes) bytes) }
  pub valid : N.is_valid kind ≡ true

pub from_type : (bytes : List ℕ) (n : ℕ) → 7 ≤ length bytes → take (1 + n) (drop 6 bytes) ≡ N.slice_index bytes 6 ∷ take n (drop 7 bytes)
from_type = grind arith

pub lies : (bytes : List ℕ) → N.is_column bytes ≡ true → Lies bytes
lies = grind (arith, N.and_parts, from_type, N.is_some_value, N.le_true, named_of)

-- all bytes from a place on
pub all_after : (bytes : List ℕ) (n : ℕ) → take (length bytes - n) (drop n bytes) ≡ drop n bytes
all_after = grind (arith, N.take_all, N.length-drop)
