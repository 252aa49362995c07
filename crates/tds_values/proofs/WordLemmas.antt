-- Digits as the bytes of one number.
use Rattle.tds_values.proofs as N
use N.{List, arith, drop, last_digits, refl, suc, take, zero, ℕ, [], ◌%◌, ◌*◌, ◌++◌, ◌+◌, ◌-◌, ◌/◌, ◌<◌, ◌^◌, ◌∷◌, ◌≡◌, ◌≤◌}
use N.TextLengths.{length-last_digits}

-- the number whose bytes these are, the first the lowest
abbrev pub word_of : List ℕ → ℕ
word_of [] = 0
word_of (b ∷ bytes) = b + 256 * word_of bytes

-- the lowest k bytes of a number, the lowest first
abbrev pub bytes_of : ℕ → ℕ → List ℕ
bytes_of zero n = []
bytes_of (suc k) n = n % 256 ∷ bytes_of k (n / 256)

pub digits_are_bytes : (k n : ℕ) → N.All (λ b. b < 256) (last_digits k n)
digits_are_bytes zero n = N.All-nil (λ b. b < 256)
digits_are_bytes (suc k) n = N.All-push (λ b. b < 256) _ (48 + n % 10) (digits_are_bytes k (n / 10)) (omega arith)

-- the low bytes of a number give back what it was made of
bytes_of-word_of : (xs : List ℕ) → N.All (λ b. b < 256) xs → bytes_of (N.length xs) (word_of xs) ≡ xs
bytes_of-word_of [] h = refl
bytes_of-word_of (x ∷ xs) h = grind (arith, N.All-head, (bytes_of-word_of xs (N.All-tail (λ b. b < 256) x xs h)))

-- without the lowest bytes
drop-bytes_of : (j k w : ℕ) → drop j (bytes_of (j + k) w) ≡ bytes_of k (w / 256 ^ j)
drop-bytes_of zero k w = let one : w / 256 ^ 0 ≡ w = omega arith in rw (one, N.zero-add) refl
drop-bytes_of (suc j) k w = rw (N.suc-add, N.pow-succ' 256 j, ← N.div-div-eq-div-mul w 256 (256 ^ j)) (drop-bytes_of j k (w / 256))

take-bytes_of : (j k w : ℕ) → take k (bytes_of (j + k) w) ≡ bytes_of k w
take-bytes_of j zero w = refl
take-bytes_of j (suc k) w = rw (N.add-suc, take-bytes_of j k (w / 256))

low_bytes : (i k n : ℕ) → N.bytes_low_first i k n ≡ bytes_of k (n / 256 ^ i)
low_bytes i zero n = refl
low_bytes i (suc k) n = grind (arith, N.div-div-eq-div-mul, (low_bytes (suc i) k n))

-- the bytes of a whole number
pub whole_word : (m w : ℕ) → N.bytes_low_first 0 m w ≡ bytes_of m w
whole_word = grind (arith, low_bytes)

eighth_power : (k : ℕ) → 2 ^ (8 * k) ≡ 256 ^ k
eighth_power zero = refl
eighth_power (suc k) = let e : 8 * suc k ≡ 8 + 8 * k = omega arith in rw (e, N.pow-add 2 8 (8 * k), eighth_power k, N.pow-succ' 256 k)

-- of the bytes after `at`, shifted past the first j, the first k
pub shifted_put : (xs new : List ℕ) (at j k m w : ℕ) → N.length xs ≡ at → m ≡ j + k → take (at + m) new ≡ xs ++ N.bytes_low_first 0 m (w / 2 ^ (8 * j))
    → take (at + k) new ≡ xs ++ drop j (N.bytes_low_first 0 m w)
shifted_put xs new at j k m w long em e =
    let f = rw (whole_word, eighth_power) at e in
    let v = w / 256 ^ j in
    cc (N.take-take (at + k) (at + m) new (omega arith), N.take-append-add xs (bytes_of m v) k, take-bytes_of j k v, drop-bytes_of j k w, whole_word m w)

-- of k digits the last b
pub end_digits : (k b n : ℕ) → b ≤ k → drop (k - b) (last_digits k n) ≡ last_digits b n
end_digits = grind (arith, N.common_steps, N.DigitLemmas.last_digits-add, length-last_digits, N.drop-append_seam)

-- of m digits in a word, without the first j, the last k
pub digits_left : (j k m n : ℕ) {w : ℕ} → m ≡ j + k → w ≡ word_of (last_digits m n) → drop j (N.bytes_low_first 0 m w) ≡ last_digits k n
digits_left j k m n {w} em ew =
    let rest : m - k ≡ j = omega arith in
    let bytes = rw (length-last_digits m n) at (bytes_of-word_of (last_digits m n) (digits_are_bytes m n)) in
    grind (arith, whole_word, end_digits)

-- the same, shifted past the first j
pub last_put : (xs new : List ℕ) (at j k m n : ℕ) → N.length xs ≡ at → m ≡ j + k
    → take (at + m) new ≡ xs ++ N.bytes_low_first 0 m (word_of (last_digits m n) / 2 ^ (8 * j))
    → take (at + k) new ≡ xs ++ last_digits k n
last_put xs new at j k m n long em e = rw (← digits_left j k m n em refl) (shifted_put xs new at j k m _ long em e)

-- of a + b digits the first a
front_digits : (a b n : ℕ) → take a (last_digits (a + b) n) ≡ last_digits a (n / 10 ^ b)
front_digits = grind (arith, N.common_steps, length-last_digits, N.DigitLemmas.last_digits-add, N.take-append-add, N.append-nil)

-- of m digits after `at` the first a
pub front_put : (xs new : List ℕ) (at a b m n : ℕ) → N.length xs ≡ at → m ≡ a + b → take (at + m) new ≡ xs ++ last_digits m n
    → take (at + a) new ≡ xs ++ last_digits a (n / 10 ^ b)
front_put xs new at a b m n long em e =
    cc (N.take-take (at + a) (at + m) new (omega arith), N.take-append-add xs (last_digits m n) a, front_digits a b n)
