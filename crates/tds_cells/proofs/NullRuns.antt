-- NULLs by their bits, in columns after one another.
use Rattle.tds_cells.proofs as N
use N.{Bool, Column, List, [], arith, in_line, length, refl, suc, zero, ℕ, ◌*◌, ◌++◌, ◌+◌, ◌-◌, ◌<◌, ◌==◌, ◌≡◌, ◌≤◌}

-- a column that is NULL by its bit
null_column : (charset : N.Charset) (columns : List Column) (nulls : ℕ → Bool) (k : ℕ) → k < length columns → nulls k ≡ N.true
    → N.WritesColumn charset columns nulls k [] (in_line k (k + 1 == length columns) N.null_field)
null_column _ columns nulls k within null =
    let c : Column = grind arith in
    let column = N.get_or columns k c in
    let next = N.drop_more columns k c within in
    let last = N.RowFormatSteps.last_one columns (N.drop (k + 1) columns) column k (length columns) refl next in
    grind arith

-- the text of so many, none of which is the first or the last of its row
abbrev pub nulls_text : ℕ → List ℕ
nulls_text zero = []
nulls_text (suc n) = nulls_text n ++ in_line 1 N.false N.null_field

nulls_length : (n : ℕ) → length (nulls_text n) ≡ 5 * n
nulls_length zero = refl
nulls_length (suc n) = grind (arith, nulls_length n, N.length-append)

nulls_both : (n m : ℕ) → nulls_text (n + m) ≡ nulls_text n ++ nulls_text m
nulls_both n zero = rw (N.add-zero, N.append-nil)
nulls_both n (suc m) = rw (N.add-suc, nulls_both n m, N.append_assoc)

-- of eight the first ones
pub first_nulls : (n : ℕ) (rest : List ℕ) → n ≤ 8 → N.take (5 * n) (nulls_text 8 ++ rest) ≡ nulls_text n
first_nulls n rest few =
    let all : n + (8 - n) ≡ 8 = omega arith in
    let text : nulls_text 8 ++ rest ≡ nulls_text n ++ (nulls_text (8 - n) ++ rest) = rw (← N.append_assoc, ← nulls_both, all) in
    rw (text, ← nulls_length n) (N.take-append_seam (nulls_text n) _)

-- the text of NULL neither first nor last in its row
inner_null : (k n : ℕ) → 0 < k → k + 1 < n → in_line k (k + 1 == n) N.null_field ≡ in_line 1 N.false N.null_field
inner_null = grind arith

-- columns that are NULL by their bit, after the first and before the last
pub nulls_inside : (nulls : ℕ → Bool) (from n count : ℕ) → 0 < from → from + n < count → N.BitsAre N.true nulls from (from + n)
    → (charset : N.Charset) (columns : List Column) → length columns ≡ count → N.WritesMarked charset columns nulls from n [] (nulls_text n)
nulls_inside _ _ zero _ _ _ _ _ _ _ = (refl, refl)
nulls_inside nulls from (suc n) count some within set charset columns counted =
    let one = null_column charset columns nulls (from + n) (omega arith) (set (from + n) (omega arith) (omega arith)) in
    let text = inner_null (from + n) (length columns) (omega arith) (omega arith) in (
      [],
      [],
      nulls_text n,
      in_line 1 N.false N.null_field,
      refl,
      refl,
      nulls_inside nulls from n count some (omega arith) (λ k least most. set k least (omega arith)) charset columns counted,
      rw text at one,
    )

-- the next column alone
pub null_alone : (nulls : ℕ → Bool) (at count : ℕ) → at < count → nulls at ≡ N.true → (charset : N.Charset) (columns : List Column)
    → length columns ≡ count → N.WritesMarked charset columns nulls at 1 [] (in_line at (at + 1 == count) N.null_field)
null_alone nulls at count within null charset columns counted =
    let one = rw counted at (null_column charset columns nulls at (omega arith) null) in
    (grind arith)
