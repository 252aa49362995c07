-- Hexadecimal digits, 16 at a time.
use Rattle.tds_values.proofs as N
use N.{Each1, Fits, List, arith, drop, length, lower, map, put_chunk, refl, take, w8, ℕ, [], ◌%◌, ◌++◌, ◌+◌, ◌/◌, ◌<◌, ◌∙◌, ◌∷◌, ◌≡◌, ◌≤◌}
use N.TableLemmas.{hex_at}
use Rattle.std.specs.Int.Bits.{bit_or, or_zero_r}
use lib.Lanes.{zip2}
use Rattle.hex.specs.Hex.{encode_with}
use Rattle.uuid.specs.Parts.{swap_fields}
use Rattle.uuid.specs.Text.{by_index, hyphenated_text, simple_text}

pub looked_up : (i : ℕ) (js : List ℕ) → i + length js ≤ 16 → Each1 (λ j. j < 16) js
    → N.swz_l w8 16 N.lower_digits i js ≡ map (N.slice_index N.lower_digits) js
looked_up i [] few small = refl
looked_up i (j ∷ js) few small = grind (arith, N.nat_tests, looked_up (N.suc i) js (omega arith) small.1)

-- the lanes of two vectors in turn
abbrev pub woven : List ℕ → List ℕ → List ℕ
woven high low =
    map (λ k. N.get_or (high ++ low) k 0) (0 ∷ 16 ∷ 1 ∷ 17 ∷ 2 ∷ 18 ∷ 3 ∷ 19 ∷ 4 ∷ 20 ∷ 5 ∷ 21 ∷ 6 ∷ 22 ∷ 7 ∷ 23
    ∷ 8 ∷ 24 ∷ 9 ∷ 25 ∷ 10 ∷ 26 ∷ 11 ∷ 27 ∷ 12 ∷ 28 ∷ 13 ∷ 29 ∷ 14 ∷ 30 ∷ 15 ∷ 31 ∷ [])

pub woven_digits : (v : List ℕ) → length v ≡ 16
    → woven (map (N.slice_index N.lower_digits) (map (λ x. x / 16) v)) (map (N.slice_index N.lower_digits) (map (λ x. x % 16) v)) ≡ N.encode_lower v
unfolding encode_with
woven_digits (a ∷ b ∷ c ∷ d ∷ e ∷ f ∷ g ∷ h ∷ i ∷ j ∷ k ∷ l ∷ m ∷ n ∷ o ∷ p ∷ []) long = refl
woven_digits v long = absurd (omega arith)

pub high_small : (v : List ℕ) → Each1 (Fits w8) v → Each1 (λ x. x < 16) (map (λ x. x / 16) v)
high_small [] h = tt
high_small (x ∷ xs) h = let fits : x < 256 = h.0.fits in (omega arith, high_small xs h.1)

pub low_small : (v : List ℕ) → Each1 (λ x. x < 16) (map (λ x. x % 16) v)
low_small [] = tt
low_small (x ∷ xs) = (omega arith, low_small xs)

-- the two digits of each byte
abbrev pub hex_of : List ℕ → List ℕ
hex_of [] = []
hex_of (b ∷ bytes) = N.hex_digit lower (b / 16 % 16) ∷ N.hex_digit lower (b % 16) ∷ hex_of bytes

pub encoded : (v : List ℕ) → Each1 (Fits w8) v → N.encode_lower v ≡ hex_of v
unfolding encode_with
encoded [] h = refl
encoded (b ∷ bytes) h = rw ((hex_at b h.0.fits).0, (hex_at b h.0.fits).1, encoded bytes h.1) refl

fits_swapped : (v : List ℕ) → length v ≡ 16 → Each1 (Fits w8) v → Each1 (Fits w8) (swap_fields v)
fits_swapped (a ∷ b ∷ c ∷ d ∷ e ∷ f ∷ g ∷ h ∷ i ∷ j ∷ k ∷ l ∷ m ∷ n ∷ o ∷ p ∷ []) long (a', (b', (c', (d', (e', (f', (g', (h', rest)))))))) =
    (d', (c', (b', (a', (f', (e', (h', (g', rest))))))))
fits_swapped v long fits = absurd (omega arith)

-- the digits of a GUID, whose bytes were put into the order of its text
pub guid_digits : (v : List ℕ) → length v ≡ 16 → Each1 (Fits w8) v
    → N.encode_lower (map (λ k. N.get_or (v ++ v) k 0) (3 ∷ 2 ∷ 1 ∷ 0 ∷ 5 ∷ 4 ∷ 7 ∷ 6 ∷ 8 ∷ 9 ∷ 10 ∷ 11 ∷ 12 ∷ 13 ∷ 14 ∷ 15 ∷ [])) ≡ simple_text lower
    (swap_fields v)
unfolding by_index
guid_digits v long fits = N.ap N.encode_lower (N.pick_l_left 0 v v 16 (3 ∷ 2 ∷ 1 ∷ 0 ∷ 5 ∷ 4 ∷ 7 ∷ 6 ∷ 8 ∷ 9 ∷ 10 ∷ 11 ∷ 12 ∷ 13 ∷ 14 ∷ 15 ∷ []) long
    (tt {0})) ∙ encoded (swap_fields v) (fits_swapped v long fits)

-- the first n of the lanes that were written to a place
pub taken_put : (i n : ℕ) (xs ys : List ℕ) → n ≤ length ys → i + length ys ≤ length xs → take (i + n) (put_chunk i xs ys) ≡ take i xs ++ take n ys
taken_put i n xs ys within room = grind (arith, N.length-take-le, N.put_chunk_is, N.take-append-add, N.take-append-le)

-- lanes at places, where nothing is at a place from 16 on, and bytes for the others
abbrev spread : List ℕ → List ℕ → List ℕ → List ℕ
spread lanes places others = zip2 bit_or (map (λ k. N.get_or (lanes ++ N.replicate 16 0) k 0) places) others

-- digits of the first half of a GUID between hyphens, and those of the second after one
abbrev pub middle_of : List ℕ → List ℕ
middle_of first = spread first (16 ∷ 8 ∷ 9 ∷ 10 ∷ 11 ∷ 16 ∷ 12 ∷ 13 ∷ 14 ∷ 15 ∷ 16 ∷ 16 ∷ 16 ∷ 16 ∷ 16 ∷ 16 ∷ [])
    (45 ∷ 0 ∷ 0 ∷ 0 ∷ 0 ∷ 45 ∷ 0 ∷ 0 ∷ 0 ∷ 0 ∷ 45 ∷ 0 ∷ 0 ∷ 0 ∷ 0 ∷ 0 ∷ [])

abbrev pub last_of : List ℕ → List ℕ
last_of second = spread second (16 ∷ 4 ∷ 5 ∷ 6 ∷ 7 ∷ 8 ∷ 9 ∷ 10 ∷ 11 ∷ 12 ∷ 13 ∷ 14 ∷ 15 ∷ 16 ∷ 16 ∷ 16 ∷ [])
    (45 ∷ 0 ∷ 0 ∷ 0 ∷ 0 ∷ 0 ∷ 0 ∷ 0 ∷ 0 ∷ 0 ∷ 0 ∷ 0 ∷ 0 ∷ 0 ∷ 0 ∷ 0 ∷ [])

abbrev with_hyphens : List ℕ → List ℕ
with_hyphens digits = take 8 digits ++ 45 ∷ take 4 (drop 8 digits) ++ 45 ∷ take 4 (drop 12 digits) ++ 45 ∷ take 4 (drop 16 digits) ++ 45 ∷ drop 20
    digits

pieces : (first second : List ℕ) → length first ≡ 16 → length second ≡ 16
    → ((take 8 first ++ take 11 (middle_of first)) ++ take 4 second) ++ take 13 (last_of second) ≡ with_hyphens (first ++ second)
pieces (a ∷ b ∷ c ∷ d ∷ e ∷ f ∷ g ∷ h ∷ i ∷ j ∷ k ∷ l ∷ m ∷ n ∷ o ∷ p ∷ [])
    (a' ∷ b' ∷ c' ∷ d' ∷ e' ∷ f' ∷ g' ∷ h' ∷ i' ∷ j' ∷ k' ∷ l' ∷ m' ∷ n' ∷ o' ∷ p' ∷ []) long long' = simp or_zero_r refl
pieces first second long long' = absurd (omega arith)

-- the text of a GUID, each piece of which was written over what the one before it has too much
pub hyphenated : (to first second bytes : List ℕ) → 39 ≤ length to → length first ≡ 16 → length second ≡ 16
    → first ++ second ≡ simple_text lower bytes
    → take 36 (put_chunk 23 (put_chunk 19 (put_chunk 8 (put_chunk 0 to first) (middle_of first)) second) (last_of second)) ≡ hyphenated_text lower
    bytes
unfolding by_index
hyphenated to first second bytes room long long' digits =
    let one = put_chunk 0 to first in
    let two = put_chunk 8 one (middle_of first) in
    let three = put_chunk 19 two second in
    let front = taken_put 0 8 to first (omega arith) (omega arith) in
    let more = taken_put 8 11 one (middle_of first) (omega arith) (omega (arith, N.length-put_chunk 0 to first)) in
    let most = taken_put 19 4 two second (omega arith) (omega (arith, N.length-put_chunk 0 to first, N.length-put_chunk 8 one (middle_of first))) in
    let all = taken_put 23 13 three (last_of second) (omega arith) (omega (
      arith,
      N.length-put_chunk 0 to first,
      N.length-put_chunk 8 one (middle_of first),
      N.length-put_chunk 19 two second,
    )) in
    rw (all, most, more, front) (pieces first second long long' ∙ N.ap with_hyphens digits)
