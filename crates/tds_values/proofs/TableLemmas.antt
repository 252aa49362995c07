-- The tables of digits.
use Rattle.tds_values.proofs as N
use N.{List, arith, codes, drop, last_digits, length, refl, suc, take, ℕ, [], if◌then◌else◌, ◌%◌, ◌*◌, ◌++◌, ◌+◌, ◌/◌, ◌<◌, ◌==◌, ◌^◌, ◌∙◌, ◌∷◌, ◌≡◌, ◌≤◌}
use N.DigitLemmas.{decimal_last}
use N.TextLengths.{length-last_digits}
use Rattle.tds_values.specs.ScalarText.{march_text, minutes_text}
use Rattle.tds_values.specs.declared.numbers.TheConstants.{POWERS}
use Rattle.std.proofs.Math.Seq.{drop-append-add}

-- functions agree below n that do so where they are computed
pub each_below : (f g : ℕ → ℕ) (n : ℕ) → N.agree_below (λ k. f k == g k) (λ _. N.true) n ≡ N.true → (k : ℕ) → k < n → f k ≡ g k
each_below f g n all k h = N.eqb-true (f k) (g k) (N.agree_below_at (λ k. f k == g k) (λ _. N.true) n k all h)

-- the texts of n numbers from m on, one after the other
joined_from : (ℕ → List ℕ) → ℕ → ℕ → List ℕ
joined_from text N.zero m = []
joined_from text (suc n) m = text m ++ joined_from text n (suc m)

first : (w j : ℕ) (xs ys : List ℕ) → j ≡ 0 → length xs ≡ w → take w (drop j (xs ++ ys)) ≡ xs
first = grind (arith, N.take-append-le, N.take_all)

-- of texts of w bytes each the one of a number
text_at : (text : ℕ → List ℕ) (w : ℕ) → ((m : ℕ) → length (text m) ≡ w) → (k n m : ℕ) → k < n
    → take w (drop (w * k) (joined_from text n m)) ≡ text (k + m)
unfolding joined_from
text_at text w long k N.zero m h = absurd (omega arith)
text_at text w long N.zero (suc n) m h = first w (w * 0) (text m) (joined_from text n (suc m)) (omega arith) (long m) ∙ N.ap text (omega arith)
text_at text w long (suc k) (suc n) m h =
    let e : w * suc k ≡ length (text m) + w * k = omega (arith, long m) in
    let same : suc k + m ≡ k + suc m = omega arith in
    rw (e, drop-append-add (text m) (joined_from text n (suc m)) (w * k), same) (text_at text w long k n (suc m) (omega arith))

-- the four digits of a number
four_digits : N.FOUR_DIGITS ≡ joined_from (last_digits 4) 10000 0
unfolding joined_from
four_digits = refl

pub four_at : (n k : ℕ) → n < 10000 → k ≡ 4 → take k (drop (4 * n) N.FOUR_DIGITS) ≡ last_digits 4 n
four_at = grind (arith, four_digits, N.add-zero, text_at, length-last_digits)

-- how many digits a small number has, and these in three bytes before that number
abbrev small_size : ℕ → ℕ
small_size n = if N.nat_lt n 10 then 1 else (if N.nat_lt n 100 then 2 else 3)

abbrev small_text : ℕ → List ℕ
small_text n = take 3 (last_digits (small_size n) n ++ codes "..") ++ small_size n ∷ []

small_length : (n : ℕ) → length (small_text n) ≡ 4
small_length n = grind (arith, N.length-append, length-last_digits, N.length-take-le 3 (last_digits (small_size n) n ++ codes ".."))

small_numbers : N.SMALL_NUMBERS ≡ joined_from small_text 256 0
unfolding joined_from
small_numbers = refl

small_at : (n : ℕ) → n < 256 → take 4 (drop (4 * n) N.SMALL_NUMBERS) ≡ small_text n
small_at n small = rw small_numbers (rw N.add-zero at (text_at small_text 4 small_length n 256 0 small))

small_decimal : (n : ℕ) → n < 256 → N.decimal n ≡ last_digits (small_size n) n
small_decimal n small = grind (arith, decimal_last 0 n, decimal_last 1 n, decimal_last 2 n)

pub small_put : (n at k m : ℕ) (old new text : List ℕ) → n < 256 → m ≡ 4 → text ≡ take m (drop (4 * n) N.SMALL_NUMBERS) → k ≡ N.get_or text 3 0
    → at ≤ length old → take (at + 4) new ≡ take at old ++ text → (k ≤ 3) × (take (at + k) new ≡ take at old ++ N.decimal n)
small_put n at k m old new text small four is count within written =
    let whole : text ≡ small_text n = rw four at is ∙ small_at n small in
    let counted : k ≡ small_size n = grind (arith, N.length-take-le 3 (last_digits (small_size n) n ++ codes ".."), N.length-append, length-last_digits) in
    let front : take k text ≡ N.decimal n = grind (arith, small_decimal, N.take-append-le, N.take-take, N.take_all, length-last_digits) in
    let few : k ≤ 3 = grind arith in
    (few, cc (N.take-take (at + k) (at + 4) new (omega arith), N.take-append-add (take at old) text k, N.length-take-le at old within, written, front))

-- and the text of a minute
minutes : N.MINUTES ≡ joined_from (λ m. minutes_text m ++ codes ":" ++ last_digits 2 0) 1440 0
unfolding joined_from
minutes = refl

pub minute_at : (m k : ℕ) → m < 1440 → k ≡ 8 → take k (drop (8 * m) N.MINUTES) ≡ minutes_text m ++ codes ":" ++ last_digits 2 0
minute_at = grind (arith, minutes, N.add-zero, text_at)

-- and those of the days of a year from 1 March on
days : N.DAYS ≡ joined_from (λ n. march_text n ++ codes "  ") 366 0
unfolding joined_from
days = refl

pub day_at : (n k : ℕ) → n < 366 → k ≡ 8 → take k (drop (8 * n) N.DAYS) ≡ march_text n ++ codes "  "
day_at = grind (arith, N.common_steps, days, N.add-zero, text_at)

pub power_at : (scale : ℕ) → scale < 20 → N.get_or POWERS scale 0 ≡ 10 ^ scale
power_at = each_below _ _ 20 refl

-- the two hexadecimal digits of a byte
pub hex_at : (b : ℕ) → b < 256 → (N.slice_index N.lower_digits (b / 16) ≡ N.hex_digit N.lower (b / 16 % 16))
    × (N.slice_index N.lower_digits (b % 16) ≡ N.hex_digit N.lower (b % 16))
hex_at b h = grind (arith, each_below)
