-- The zeros before a number's digits, counted as the zero bits of one number.
use Rattle.tds_values.proofs as N
use N.{arith, suc, zero, ℕ, ◌%◌, ◌*◌, ◌+◌, ◌-◌, ◌/◌, ◌<◌, ◌^◌, ◌≡◌, ◌≤◌, ◌⊎◌}
use N.WordLemmas.{word_of}
use lib.Count.{count_trailing_zeros}

-- the values of the last k + 1 digits as the bytes of a number, the first the lowest, and a bit more in the last
abbrev values_of : ℕ → ℕ → ℕ
values_of zero n = n % 10 + 16
values_of (suc k) n = n / 10 ^ suc k % 10 + 256 * values_of k n

-- what a word of digits has more
abbrev offset_of : ℕ → ℕ
offset_of zero = 32
offset_of (suc k) = 48 + 256 * offset_of k

word_values : (k n : ℕ) → word_of (N.last_digits (suc k) n) ≡ values_of k n + offset_of k
word_values zero n = omega arith
word_values (suc k) n =
    let one : suc (suc k) ≡ 1 + suc k = omega arith in
    omega (arith, N.ap (λ m. word_of (N.last_digits m n)) one, N.ap word_of (N.DigitLemmas.last_digits-add 1 (suc k) n), word_values k n)

step : (bit t a : ℕ) → (bit ≡ 0 → t < a) → N.under bit t < suc a
step zero t a h = let g = h N.refl in omega arith
step _ t a h = omega arith

-- below a set digit none counts
low_bit : (a r d m : ℕ) → 0 < d → d < 2 ^ a → count_trailing_zeros (a + r) (d + 2 ^ a * m) < a
unfolding count_trailing_zeros
low_bit zero r d m some few = absurd (omega arith)
low_bit (suc a) r d m some few =
    let half : (d + 2 ^ suc a * m) / 2 ≡ d / 2 + 2 ^ a * m = rw (N.pow-succ' 2 a) (omega arith) in
    let same : (d + 2 ^ suc a * m) % 2 ≡ d % 2 = rw (N.pow-succ' 2 a) (omega arith) in
    rw (N.suc-add, half, same) (step (d % 2) _ a (λ even. low_bit a r (d / 2) m (omega arith) (omega arith)))

-- and a digits that aren't set all count
low_zeros : (a r m : ℕ) → count_trailing_zeros (a + r) (2 ^ a * m) ≡ a + count_trailing_zeros r m
unfolding count_trailing_zeros
low_zeros zero r m = grind arith
low_zeros (suc a) r m =
    let half : 2 ^ suc a * m / 2 ≡ 2 ^ a * m = rw (N.pow-succ' 2 a) (omega arith) in
    let even : 2 ^ suc a * m % 2 ≡ 0 = rw (N.pow-succ' 2 a) (omega arith) in
    rw (N.suc-add, half, even, low_zeros a r m) (omega arith)

-- of k + 1 digits the first t are leading zeros
abbrev pub HasLeadingZeros : ℕ → ℕ → ℕ → Type 0
HasLeadingZeros k n t = (t ≤ k) × ((n < 10 ^ (suc k - t)) × ((t ≡ k) ⊎ (10 ^ (k - t) ≤ n)))

next : (k n t s : ℕ) → s ≡ suc t → HasLeadingZeros k n t → HasLeadingZeros (suc k) n s
next k n t s e h = grind arith

-- none is, where the first is set
first_set : (k n t : ℕ) → t < 8 → n < 10 ^ suc k → (k ≡ 0) ⊎ (10 ^ k ≤ n) → HasLeadingZeros k n (t / 8)
first_set k n t e small large = grind arith

leading_zeros : (k n : ℕ) → n < 10 ^ suc k → HasLeadingZeros k n (count_trailing_zeros (8 * suc k) (values_of k n) / 8)
leading_zeros zero n h = first_set 0 n _ (simp N.add-zero at (low_bit 8 0 (n % 10 + 16) 0 (omega arith) (omega arith))) h (N.inl N.refl)
leading_zeros (suc k) n h =
    let d = n / 10 ^ suc k in
    let v = values_of k n in
    let some = N.one-le-pow (suc k) 10 (omega arith) in
    let few : d < 10 = N.div_below n (10 ^ suc k) 10 some (omega (arith, N.pow-succ' 10 (suc k))) in
    let same : d % 10 ≡ d = omega arith in
    let width : 8 * suc (suc k) ≡ 8 + 8 * suc k = omega arith in
    rw (width, same) (N.⊎_elim
    (λ less. let none : d ≡ 0 = N.div-eq_of_lt less in rw (
      none,
      N.zero-add,
    ) (next k n _ _ (omega (arith, low_zeros 8 (8 * suc k) v)) (leading_zeros k n less)))
    (λ more. first_set (suc k) n _ (low_bit 8 (8 * suc k) d v (N.le-div 1 n (10 ^ suc k) some (omega arith)) (omega arith)) h (N.inr more))
    (N.cases_lt n (10 ^ suc k)))

-- a number of k + 1 digits in a word has as many leading zeros as bytes are 0 without 48
pub zeros_of : (k n w : ℕ) → n < 10 ^ suc k → w ≡ word_of (N.last_digits (suc k) n)
    → HasLeadingZeros k n (count_trailing_zeros (8 * suc k) (w - offset_of k) / 8)
zeros_of k n w h e = let values : w - offset_of k ≡ values_of k n = omega (arith, word_values k n) in rw values (leading_zeros k n h)
