-- What the tables of places have.
use Rattle.tds_text.proofs as N
use N.{Bool, Each1, Fits, List, arith, cond, digits_l, drop, flat_map, get_or, high_quad, length, low_quad, map, number_l, refl, sel_l, suc, take, true, w16}
use N.{zip2, ℕ, [], ◌%◌, ◌&&◌, ◌*◌, ◌++◌, ◌+◌, ◌/◌, ◌<◌, ◌^◌, ◌∙◌, ◌∷◌, ◌≡◌, ◌≤◌}
use Rattle.tds_text.specs.Utf16.{units}

-- ---- bytes that are gathered from lanes by the places of a table

-- lanes at places
pub looked_up : (xs : List ℕ) (i : ℕ) (js : List ℕ) → i + length js ≤ 16 → Each1 (λ j. j < 16) js → N.swz_l N.w8 16 xs i js ≡ map (λ j. get_or xs j 0) js
looked_up xs i [] few small = refl
looked_up xs i (j ∷ js) few small = grind (arith, looked_up xs (suc i) js (omega arith) small.1)

-- the places of bytes of each lane, for lanes of this width from a place on
abbrev pub placed : ℕ → ℕ → List (List ℕ) → List ℕ
placed width at [] = []
placed width at (ks ∷ kss) = map (λ k. at + k) ks ++ placed width (at + width) kss

-- the bytes of a lane between others
pub one_lane : (front lane more ks : List ℕ) → Each1 (λ k. k < length lane) ks
    → map (λ j. get_or (front ++ (lane ++ more)) j 0) (map (λ k. length front + k) ks) ≡ map (λ k. get_or lane k 0) ks
one_lane front lane more [] each = refl
one_lane front lane more (k ∷ ks) each = N.ap₂ (λ x xs. x ∷ xs) (grind (arith, N.get_or-append-add, N.get_or_append_left)) (one_lane front lane more ks each.1)

-- the bits of a mask
abbrev pub bits : ℕ → ℕ → List Bool
bits N.zero mask = []
bits (suc n) mask = N.nat_eq (mask % 2) 1 ∷ bits n (mask / 2)

pub lowest_bit : (b : Bool) (n : ℕ) → (N.nat_eq ((cond b 1 0 + 2 * n) % 2) 1 ≡ b) × ((cond b 1 0 + 2 * n) / 2 ≡ n)
lowest_bit = grind arith

-- where the bytes of a text are in a unit's two: a text of two bytes, or of one
abbrev pub pair_places : Bool → Bool → List ℕ
pair_places wide long = cond wide (0 ∷ 1 ∷ []) (0 ∷ [])

-- and in its four: a text of three bytes, of two, or of one
abbrev pub quad_places : Bool → Bool → List ℕ
quad_places wide long = cond long (2 ∷ 3 ∷ 1 ∷ []) (cond wide (3 ∷ 1 ∷ []) (0 ∷ []))

-- each of them is below this
abbrev all_below : ℕ → List ℕ → Bool
all_below n [] = true
all_below n (k ∷ ks) = N.nat_lt k n && all_below n ks

each_below : (n : ℕ) (ks : List ℕ) → all_below n ks ≡ true → Each1 (λ k. k < n) ks
each_below n [] all = tt
each_below n (k ∷ ks) all = grind (arith, N.and_parts, each_below n ks)

-- A row of a table has 16 places in 16 bytes, and begins with these.
pub record IsRow (row begins : List ℕ) : Type 0 where
  pub long : length row ≡ 16
  pub small : Each1 (λ k. k < 16) row
  pub is : row ≡ begins ++ drop (length begins) row

-- its test
abbrev is_row : List ℕ → List ℕ → Bool
is_row row begins = (N.nat_eq (length row) 16 && all_below 16 row) && N.bytes_eq row (begins ++ drop (length begins) row)

-- what holds of each row by the test
row_at : (table begins : ℕ → List ℕ) (n i : ℕ) → N.agree_below (λ i. is_row (table i) (begins i)) (λ _. true) n ≡ true → i < n
    → IsRow (table i) (begins i)
row_at table begins n i all small =
    let row = N.agree_below_at (λ i. is_row (table i) (begins i)) (λ _. true) n i all small in
    grind (arith, N.and_parts, each_below, N.bytes_eq-Decides)

pub pair_row : (mask : ℕ) → mask < 256 → IsRow (get_or N.PAIRS mask []) (placed 2 0 (zip2 pair_places (bits 8 mask) (bits 8 0)))
pair_row mask = row_at (λ i. get_or N.PAIRS i []) (λ i. placed 2 0 (zip2 pair_places (bits 8 i) (bits 8 0))) 256 mask refl

quad_at : (i : ℕ) → i < 256 → IsRow (get_or N.QUADS i []) (placed 4 0 (zip2 quad_places (bits 4 (i % 16)) (bits 4 (i / 16))))
quad_at i = row_at (λ i. get_or N.QUADS i []) (λ i. placed 4 0 (zip2 quad_places (bits 4 (i % 16)) (bits 4 (i / 16)))) 256 i refl

pub quad_row : (wide long : ℕ) → wide < 16 → long < 16
    → IsRow (get_or N.QUADS (wide + 16 * long) []) (placed 4 0 (zip2 quad_places (bits 4 wide) (bits 4 long)))
quad_row wide long small small' =
    let low : (wide + 16 * long) % 16 ≡ wide = omega arith in
    let high : (wide + 16 * long) / 16 ≡ long = omega arith in
    rw (low, high) at (quad_at (wide + 16 * long) (omega arith))

-- how many bits are set in two masks of four
pub ones_of_two : (wide long : ℕ) → wide < 16 → long < 16 → (N.count_ones (wide + 16 * long) ≡ N.count_ones wide + N.count_ones long)
    × (N.count_ones (wide + 16 * long) ≤ 8)
ones_of_two wide long small small' =
    let index : wide + 16 * long ≡ long * 2 ^ 4 + wide = omega arith in
    (rw (index, N.ones_cat 4 long wide small) (omega arith), N.ones-le 8 (wide + 16 * long) (omega arith))

-- ---- units that are looked at eight at a time, lane by lane

-- lanes that are chosen one by one
chosen_maps : (m : ℕ → Bool) (f g : ℕ → ℕ) (us : List ℕ) → sel_l (map m us) (map f us) (map g us) ≡ map (λ u. cond (m u) (f u) (g u)) us
chosen_maps m f g [] = refl
chosen_maps m f g (u ∷ us) = rw (chosen_maps m f g us)

pub picked_self : (m : ℕ → Bool) (f : ℕ → ℕ) (us : List ℕ) → sel_l (map m us) (map f us) us ≡ map (λ u. cond (m u) (f u) u) us
picked_self m f us = N.ap (sel_l (map m us) (map f us)) (N.sym (N.map-id us)) ∙ chosen_maps m f (λ u. u) us

pub picked : (m : ℕ → Bool) (g : ℕ → ℕ) (us : List ℕ) (n y : ℕ) → length us ≡ n
    → sel_l (map m us) (N.replicate n y) (map g us) ≡ map (λ u. cond (m u) y (g u)) us
picked m g us n y long = rw (N.splat_is_map us n y long) (chosen_maps m (λ _. y) g us)

pub picked_number : (m : ℕ → Bool) (us : List ℕ) (n y z : ℕ) → length us ≡ n
    → sel_l (map m us) (N.replicate n y) (N.replicate n z) ≡ map (λ u. cond (m u) y z) us
picked_number m us n y z long = rw (N.splat_is_map us n y long, N.splat_is_map us n z long) (chosen_maps m (λ _. y) (λ _. z) us)

-- two bytes are a lane
pub units_of_bytes : (n : ℕ) (xs : List ℕ) → length xs ≡ 2 * n → Each1 (Fits N.w8) xs → digits_l 65536 n (number_l 256 xs) ≡ units xs
units_of_bytes (suc n) (low ∷ high ∷ xs) long fits = let more = units_of_bytes n xs (omega arith) fits.1.1 in
    grind arith
units_of_bytes n xs long fits = grind arith

-- the first byte of a long character, and the two others as a number, low byte first
abbrev pub lead : ℕ → ℕ
lead u = 224 + u / 4096

abbrev pub others : ℕ → ℕ
others u = (128 + u / 64 % 64) + (128 + u % 64) * 256

-- the two bytes of each number that is made of a unit
lane_bytes : (f : ℕ → ℕ) (n : ℕ) (us : List ℕ) → length us ≡ n → Each1 (λ u. f u < 65536) us
    → digits_l 256 (2 * n) (number_l 65536 (map f us)) ≡ flat_map (λ u. N.low_and_high (f u)) us
lane_bytes f N.zero [] long fits = refl
lane_bytes f (suc n) (u ∷ us) long fits =
    let two : 2 * suc n ≡ suc (suc (2 * n)) = omega arith in
    rw two (grind (arith, lane_bytes f n us (omega arith) fits.1))
lane_bytes f n us long fits = grind arith

-- the bytes of eight pairs
pub pair_lanes : (us : List ℕ) {z : List ℕ} → length us ≡ 8 → Each1 (Fits w16) us → z ≡ map N.pair us
    → digits_l 256 16 (number_l 65536 z) ≡ flat_map N.pair_bytes us
pair_lanes us long fits is = rw is (lane_bytes N.pair 8 us long (N.Each1-weaker _ _ (grind arith) us fits))

-- of each four bytes the first, the third and the fourth, and then the second
abbrev pub woven : List ℕ → List ℕ
woven bs = map (λ k. get_or (bs ++ bs) k 0) (0 ∷ 2 ∷ 3 ∷ 4 ∷ 6 ∷ 7 ∷ 8 ∷ 10 ∷ 11 ∷ 12 ∷ 14 ∷ 15 ∷ 1 ∷ 5 ∷ 9 ∷ 13 ∷ [])

split : (u : ℕ) → u < 65536 → (lead u % 256 ≡ 224 + u / 4096) × (others u % 256 ≡ 128 + u / 64 % 64) × (others u / 256 % 256 ≡ 128 + u % 64)
    × (lead u < 65536) × (others u < 65536)
split = grind arith

-- the bytes of four of them
four_each : (a b c d : ℕ) → a < 65536 → b < 65536 → c < 65536 → d < 65536
    → take 12 (woven (digits_l 256 16 (number_l 65536 (lead a ∷ others a ∷ lead b ∷ others b ∷ lead c ∷ others c ∷ lead d ∷ others d ∷ []))))
    ≡ N.triples (a ∷ b ∷ c ∷ d ∷ [])
four_each a b c d sa sb sc sd =
    N.ap (λ bs. take 12 (woven bs)) (lane_bytes (λ x. x) 8 (lead a ∷ others a ∷ lead b ∷ others b ∷ lead c ∷ others c ∷ lead d ∷ others d ∷ []) refl
    (grind arith)) ∙ grind (arith, split)

-- eight of them, each lane beside the other
abbrev pub beside_first : List ℕ → List ℕ → List ℕ
beside_first ls os = map (λ k. get_or (ls ++ os) k 0) (0 ∷ 8 ∷ 1 ∷ 9 ∷ 2 ∷ 10 ∷ 3 ∷ 11 ∷ [])

abbrev pub beside_second : List ℕ → List ℕ → List ℕ
beside_second ls os = map (λ k. get_or (ls ++ os) k 0) (4 ∷ 12 ∷ 5 ∷ 13 ∷ 6 ∷ 14 ∷ 7 ∷ 15 ∷ [])

pub three_each : (us ls os : List ℕ) → length us ≡ 8 → Each1 (Fits w16) us → ls ≡ map lead us → os ≡ map others us
    → (take 12 (woven (digits_l 256 16 (number_l 65536 (beside_first ls os)))) ≡ take 12 (N.triples us))
    × (take 12 (woven (digits_l 256 16 (number_l 65536 (beside_second ls os)))) ≡ take 12 (drop 12 (N.triples us)))
three_each (a ∷ b ∷ c ∷ d ∷ e ∷ f ∷ g ∷ h ∷ []) ls os long fits is_lead is_others = grind (arith, four_each)
three_each us ls os long fits is_lead is_others = grind arith

-- the bytes of four characters, four each
quad_each : (a b c d : ℕ) → a < 65536 → b < 65536 → c < 65536 → d < 65536
    → digits_l 256 16 (number_l 65536 (low_quad a ∷ high_quad a ∷ low_quad b ∷ high_quad b ∷ low_quad c ∷ high_quad c ∷ low_quad d ∷ high_quad d
    ∷ [])) ≡ flat_map N.quad_bytes (a ∷ b ∷ c ∷ d ∷ [])
quad_each a b c d sa sb sc sd = lane_bytes (λ x. x) 8
    (low_quad a ∷ high_quad a ∷ low_quad b ∷ high_quad b ∷ low_quad c ∷ high_quad c ∷ low_quad d ∷ high_quad d ∷ []) refl (grind arith)

-- and of eight
pub quad_lanes : (us ls hs : List ℕ) → length us ≡ 8 → Each1 (Fits w16) us → ls ≡ map low_quad us → hs ≡ map high_quad us
    → (digits_l 256 16 (number_l 65536 (beside_first ls hs)) ≡ flat_map N.quad_bytes (take 4 us))
    × (digits_l 256 16 (number_l 65536 (beside_second ls hs)) ≡ flat_map N.quad_bytes (drop 4 us))
quad_lanes (a ∷ b ∷ c ∷ d ∷ e ∷ f ∷ g ∷ h ∷ []) ls hs long fits is_low is_high =
    rw (is_low, is_high) (grind (arith, quad_each))
quad_lanes us ls hs long fits is_low is_high = grind arith

-- what holds of one number holds of eight lanes of it
pub asks_all : (R : ℕ → ℕ → Type 0) (us : List ℕ) (k : ℕ) → ((x : ℕ) → R x k) → N.Each2 R us (N.replicate 8 k)
asks_all R us k h = N.Each2-splat R us 8 k (N.Each1-all _ h us)
