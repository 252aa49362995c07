-- The bytes of a character in UTF-8, alone and with a quote doubled.
use Rattle.tds_text.proofs as N
use N.{List, [], arith, doubled, length, take, ℕ, ◌%◌, ◌++◌, ◌+◌, ◌/◌, ◌<◌, ◌∷◌, ◌≡◌, ◌≢◌, ◌≤◌, encode_utf8}
use Rattle.std.specs.Char.{encode_utf8}

pub of_one : (c : ℕ) → c < 128 → encode_utf8 c ≡ c ∷ []
unfolding encode_utf8
of_one = grind arith

pub of_two : (c : ℕ) → 128 ≤ c → c < 2048 → encode_utf8 c ≡ (192 + c / 64) ∷ (128 + c % 64) ∷ []
unfolding encode_utf8
of_two = grind arith

pub of_three : (c : ℕ) → 2048 ≤ c → c < 65536 → encode_utf8 c ≡ (224 + c / 4096) ∷ (128 + c / 64 % 64) ∷ (128 + c % 64) ∷ []
unfolding encode_utf8
of_three = grind arith

pub of_four : (c : ℕ) → 65536 ≤ c → encode_utf8 c ≡ (240 + c / 262144) ∷ (128 + c / 4096 % 64) ∷ (128 + c / 64 % 64) ∷ (128 + c % 64) ∷ []
unfolding encode_utf8
of_four = grind arith

-- a character that isn't a quote has no byte that is one
pub doubled_character : (c : ℕ) → c ≢ 34 → doubled (encode_utf8 c) ≡ encode_utf8 c
doubled_character = grind (arith, of_one, of_two, of_three, of_four, N.nat_tests)

-- how long a character is, with a quote doubled
pub doubled_length : (c : ℕ) → (length (doubled (encode_utf8 c)) ≤ 4) × (c < 65536 → length (doubled (encode_utf8 c)) ≤ 3)
doubled_length = grind (arith, of_one, doubled_character, N.cases_lt, of_two, of_three, of_four)

-- ---- bytes that were written to a place, one after the other or many at once

-- two bytes
pub two_more : (t u v : List ℕ) (a b : ℕ) → u ≡ t ++ a ∷ [] → v ≡ u ++ b ∷ [] → v ≡ t ++ a ∷ b ∷ []
two_more = grind (arith, N.append_assoc)

-- three
pub three_more : (t u v w : List ℕ) (a b c : ℕ) → u ≡ t ++ a ∷ [] → v ≡ u ++ b ∷ [] → w ≡ v ++ c ∷ [] → w ≡ t ++ a ∷ b ∷ c ∷ []
three_more = grind (arith, N.append_assoc)

-- four
pub four_more : (t u v w x : List ℕ) (a b c d : ℕ) → u ≡ t ++ a ∷ [] → v ≡ u ++ b ∷ [] → w ≡ v ++ c ∷ [] → x ≡ w ++ d ∷ [] → x ≡ t ++ a ∷ b ∷ c ∷ d ∷ []
four_more = grind (arith, N.append_assoc)

-- a character that isn't a quote is as long as it is without doubling
pub doubled_as_long : (c k : ℕ) → 128 ≤ c → length (encode_utf8 c) ≡ k → length (doubled (encode_utf8 c)) ≡ k
doubled_as_long = grind (arith, doubled_character)

-- and it is added as it is
pub added_doubled : (c : ℕ) (t u : List ℕ) → 128 ≤ c → u ≡ t ++ encode_utf8 c → u ≡ t ++ doubled (encode_utf8 c)
added_doubled = grind (arith, doubled_character)

-- the first of some bytes that were written to a place
pub front_written : (old new bytes : List ℕ) (at n m : ℕ) → n ≤ m → at ≤ length old → take (at + m) new ≡ take at old ++ bytes
    → take (at + n) new ≡ take at old ++ take n bytes
front_written old new bytes at n m few within written =
    let place : at + n ≡ length (take at old) + n = grind (arith, N.length-take-le) in
    rw (← N.take-take (at + n) (at + m) new (omega arith), written, place) (N.take-append-add (take at old) bytes n)
