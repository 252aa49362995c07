-- Bytes as one number, and the bytes of that: they are the same, and zeros after them. Cited where a short name is read.
use Rattle.tds_csv.proofs as N
use N.{◌≡◌, ℕ, ◌+◌, ◌*◌, ◌/◌, ◌%◌, ◌^◌, ◌<◌, ◌≤◌, List, [], ◌∷◌, length, take, drop, refl, arith, ◌∙◌}
use Rattle.byteorder.specs.Endian.{little_from, little_number}
use Rattle.byteorder.specs.Numbers.{little_from-cons}
use Rattle.std.specs.Prelude.{zero, suc, slice_index}
use Rattle.tds_text.specs.Plain.{LiesIn}
use lib.Lanes.{digits_l, number_l}

-- of the bytes of a number that k bytes spell the first k
spelt : (k m : ℕ) (xs : List ℕ) → ((i : ℕ) → slice_index xs i < 256) → k ≤ length xs → k ≤ m → take k (digits_l 256 m (little_from 0 k xs)) ≡ take k xs
spelt zero m xs bytes there few = refl
spelt (suc k) m [] bytes there few = grind arith
spelt (suc k) zero (x ∷ xs) bytes there few = grind arith
spelt (suc k) (suc m) (x ∷ xs) bytes there few =
    let rest = little_from 0 k xs in
    let first = bytes 0 in
    let low : (x + 256 * rest) % 256 ≡ x = grind arith in
    let high : (x + 256 * rest) / 256 ≡ rest = omega arith in
    rw (little_from-cons 0 k x xs, low, high, spelt k m xs (λ i. bytes (suc i)) (omega arith) (omega arith)) refl

-- a number that begins later is one of the bytes from there
later : (j k : ℕ) (xs : List ℕ) → j ≤ length xs → little_from j k xs ≡ little_from 0 k (drop j xs)
later zero k xs there = refl
later (suc j) k [] there = grind arith
later (suc j) k (x ∷ xs) there = little_from-cons j k x xs ∙ later j k xs (omega arith)

-- at most sixteen bytes in two words whose number is theirs
words_hold : (xs : List ℕ) (low high : ℕ) → ((i : ℕ) → slice_index xs i < 256) → length xs ≤ 16 → low + 2 ^ 64 * high ≡ little_number (length xs) xs
    → LiesIn xs (digits_l 256 16 (number_l (2 ^ 64) (low ∷ high ∷ [])))
words_hold xs low high bytes few is =
    let number : number_l (2 ^ 64) (low ∷ high ∷ []) ≡ little_number (length xs) xs = omega arith in
    let front = rw number (spelt (length xs) 16 xs bytes (omega arith) few) ∙ N.take_all (length xs) xs (omega arith) in
    record { within = few; front = front }

-- at most eight bytes are in the first word
pub one_word : (xs : List ℕ) {low : ℕ} → ((i : ℕ) → slice_index xs i < 256) → length xs ≤ 8 → low ≡ little_number (length xs) xs
    → LiesIn xs (digits_l 256 16 (number_l (2 ^ 64) (low ∷ 0 ∷ [])))
one_word xs {low} bytes few is = words_hold xs low 0 bytes (omega arith) (omega arith)

-- more are in both
pub two_words : (xs : List ℕ) {low high : ℕ} → ((i : ℕ) → slice_index xs i < 256) → 8 ≤ length xs → length xs ≤ 16 → low ≡ little_number 8 xs
    → high ≡ little_number (length (drop 8 xs)) (drop 8 xs) → LiesIn xs (digits_l 256 16 (number_l (2 ^ 64) (low ∷ high ∷ [])))
two_words xs {low} {high} bytes more few is is_too =
    grind (arith, later, words_hold)
