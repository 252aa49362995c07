-- No text has more than 41 bytes.
use Rattle.tds_values.proofs as N
use N.{arith, length, ℕ, ℤ, ◌+◌, ◌-◌, ◌/◌, ◌<◌, ◌^◌, ◌≡◌, ◌≤◌}
use Rattle.tds_values.specs.declared.scalar.ScalarValue.TheVariants as values

pub length-last_digits : (k n : ℕ) → length (N.last_digits k n) ≡ k
length-last_digits N.zero n = N.refl
length-last_digits (N.suc k) n = grind (arith, N.length-append, (length-last_digits k (n / 10)))

-- the digits before the point
pub length-whole : (m scale : ℕ) → m < 2 ^ 128 → scale ≤ 38 → length (N.decimal (m / 10 ^ scale)) ≤ 39 - scale
length-whole m scale fits small =
    let all : 39 - scale + scale ≡ 39 = omega arith in
    grind (arith, (N.length-decimal-le_wide (39 - scale) (m / 10 ^ scale)), N.div_below, (rw all at (N.pow-add 10 (39 - scale) scale)))

-- the whole part of a power of ten
pub ruleset whole_lengths = (N.pow-le-pow_right, N.one-le-pow, length-whole)

length-integer : (n : ℤ) → N.unsigned_abs n < 2 ^ 64 → length (N.signed_decimal n) ≤ 41
length-integer n h = grind (arith, (N.length-decimal-le 20))

-- the front of a list is that of a whole number of four bytes
pub length-int4 : (made : ℕ) (to : N.List ℕ) (n : ℤ) → N.take made to ≡ N.signed_decimal n → made ≤ length to → N.unsigned_abs n ≤ 2 ^ 31 → made ≤ 11
length-int4 made to n is within small =
    let few : length (N.signed_decimal n) ≤ 11 = grind (arith, (N.length-decimal-le 10)) in
    omega (arith, few, N.length-take-le made to, N.ap length is)

pub length-text_of : (value : N.ScalarValue) → N.IsTrue (N.is_in_range value) → N.FitsWidths value → length (N.text_of value) ≤ 41
length-text_of (values.Money amount) h fits = grind (arith, (length-whole (N.unsigned_abs amount) 4), N.length-append)
length-text_of value h fits = grind (arith, N.nat_tests, length-integer, length-whole, N.by_index_length, N.length-append, length-last_digits)
