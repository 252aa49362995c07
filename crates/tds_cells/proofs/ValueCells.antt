-- Scalar cells whose bytes lie together.
use Rattle.tds_cells.proofs as N
use N.{Bool, Kind, List, Ok, WritesCell, [], ap, arith, drop, length, refl, shape, take, true, ℕ, ◌+◌, ◌-◌, ◌<◌, ◌∙◌, ◌∷◌, ◌≡◌, ◌≢◌, ◌≤◌}

pub scalar_shape : (charset : N.Charset) (kind : Kind) → N.is_scalar kind ≡ true
    → shape charset kind ≡ N.option_map_or N.FixedShape (N.fixed_length kind) N.CountedShape
scalar_shape = grind arith

-- The text is that of a scalar value of these bytes, in its line.
abbrev pub IsValueText : Kind → ℕ → Bool → List ℕ → List ℕ → Type 0
IsValueText kind column last bytes text = (value : N.ScalarValue) × (N.read_of kind bytes ≡ Ok value) × (text ≡ N.in_line column last (N.text_of value))

-- a value that is read has a length that is allowed
read_allowed : (kind : Kind) (bytes : List ℕ) (value : N.ScalarValue) → N.read_of kind bytes ≡ Ok value → N.is_length_allowed kind (length bytes) ≡ true
read_allowed = grind arith

-- no value has no bytes
allowed_some : (kind : Kind) → N.IsTrue (N.is_valid kind) → N.is_scalar kind ≡ true → N.is_length_allowed kind 0 ≡ true → ⊥
allowed_some = grind arith

-- one element, whose text comes with it
at_once : {column : ℕ} {last : Bool} {at : N.CellPart} {element text : List ℕ} (value : N.Cell) → N.IsNext (N.cell column) at element
    → N.cell_add at element ≡ N.WholeCell value → N.field_so_far at ≡ N.None → text ≡ N.in_line column last (N.field value)
    → WritesCell at column last element text
at_once {at = at} {element = element} value next whole quiet text_is = record {
  value = value;
  front = [];
  at = at;
  element = element;
  joined = refl;
  spelt = grind arith;
  next = next;
  whole = whole;
  quiet = quiet;
  text_is = text_is;
}

fixed_written : (column : ℕ) (kind : Kind) (n : ℕ) (last : Bool) (bytes text : List ℕ) → 0 < n → n ≤ length bytes
    → IsValueText kind column last (take n bytes) text → WritesCell (N.ScalarBytes kind n) column last (take n bytes) text
fixed_written _ kind n _ bytes _ some within x = at_once (N.ScalarCell x.0) (grind (arith, N.common_steps)) (cc) refl x.2

first_of : (bytes : List ℕ) (n : ℕ) → 1 ≤ length bytes → N.slice_index bytes 0 ≡ n → take 1 bytes ≡ n ∷ []
first_of = grind arith

null_written : {column : ℕ} {kind : Kind} {last : Bool} (bytes : List ℕ) {text : List ℕ} → 1 ≤ length bytes → N.slice_index bytes 0 ≡ 0
    → text ≡ N.in_line column last N.null_field → WritesCell (N.ScalarLength kind) column last (take 1 bytes) text
null_written {kind} _ within is text_is = rw (first_of _ 0 within is) (at_once N.Null (grind arith) refl refl text_is)

counted_written : (column : ℕ) (kind : Kind) (n : ℕ) (last : Bool) (bytes text : List ℕ) → N.slice_index bytes 0 ≡ n → n ≢ 0 → 1 + n ≤ length bytes
    → IsValueText kind column last (take n (drop 1 bytes)) text
    → WritesCell (N.ScalarLength kind) column last (take (1 + n) bytes) text
counted_written column kind n _ bytes _ is some within x =
    let whole = N.length-take-le n (drop 1 bytes) (grind arith) in
    let good = rw whole at (read_allowed kind _ x.0 x.1) in
    let to : (N.cell column).add (N.ScalarLength kind) (n ∷ []) ≡ N.ScalarBytes kind n = grind arith in
    record {
      value = N.ScalarCell x.0;
      front = n ∷ [];
      at = N.ScalarBytes kind n;
      element = take n (drop 1 bytes);
      joined = grind (arith, N.take-add, first_of);
      spelt = grind (arith, N.Spelt-one);
      next = grind arith;
      whole = cc;
      quiet = refl;
      text_is = x.2;
    }

module _ (charset : N.Charset) (kind : Kind) (column : ℕ) (last : Bool) (bytes text : List ℕ) (scalar : N.is_scalar kind ≡ true) where
  -- NULL at the front of these bytes
  pub null_cell : (start : ℕ) → start ≡ N.value_start kind → N.value_length kind bytes ≡ 0 → start + 0 ≤ length bytes
      → text ≡ N.in_line column last N.null_field → WritesCell (N.cell_start kind (shape charset kind)) column last (take (start + 0) bytes) text
  null_cell = grind (arith, null_written)

  pub value_cell : (start n : ℕ) → start ≡ N.value_start kind → n ≡ N.value_length kind bytes → n ≢ 0 → start + n ≤ length bytes
      → IsValueText kind column last (take n (drop start bytes)) text
      → WritesCell (N.cell_start kind (shape charset kind)) column last (take (start + n) bytes) text
  value_cell start n at many some within is = go _ refl
    where
      go : (o : N.Option ℕ) → N.fixed_length kind ≡ o → WritesCell (N.cell_start kind (shape charset kind)) column last (take (start + n) bytes) text
      go (N.Some m) e =
          let none = at ∙ ap N.start_after e in
          let all = many ∙ ap (λ o. N.length_after o bytes) e in
          let whole : start + n ≡ m = omega arith in
          rw (scalar_shape, e, whole) (grind (arith, fixed_written))
      go N.None e =
          let one = at ∙ ap N.start_after e in
          rw (scalar_shape, e, one) (grind (arith, counted_written))

  -- the value at the front of these bytes
  pub front_cell : (used : ℕ) → N.IsTrue (N.is_valid kind) → used ≡ N.scalar_size kind bytes → used ≤ length bytes
      → IsValueText kind column last (N.value_bytes kind bytes) text
      → WritesCell (N.cell_start kind (shape charset kind)) column last (take used bytes) text
  front_cell used valid is within x =
      rw is (value_cell _ _ refl refl (grind (arith, allowed_some)) (omega (arith, is)) x)

pub int4_scalar : (kind : Kind) → N.is_int4 kind ≡ true → N.is_scalar kind ≡ true
int4_scalar = grind arith

-- a cell whose value is refused is left
pub refused_left : (kind : Kind) (bytes : List ℕ) (start n : ℕ) → start ≡ N.value_start kind → n ≡ N.value_length kind bytes → n ≢ 0
    → N.is_ok (N.read_of kind (take ((start + n) - start) (drop start bytes))) ≡ N.false → N.IsScalarLeft kind bytes
refused_left kind bytes start n at many some bad =
    let after : (start + n) - start ≡ N.value_length kind bytes = omega arith in
    grind arith
