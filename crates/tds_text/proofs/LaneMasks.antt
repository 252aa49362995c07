-- Masks of lanes that pass a test.
use Rattle.tds_text.proofs as N
use N.{Bool, Each1, Fits, List, arith, bit_and, bit_or, chunk, cond, drop, false, fold_l, length, ltb, map, mask_l, not, refl, replicate, suc, take, true, w16}
use N.{w8, zero, zip2, ℕ, [], ◌%◌, ◌*◌, ◌++◌, ◌+◌, ◌-◌, ◌/◌, ◌<◌, ◌^◌, ◌↔◌, ◌∙◌, ◌∷◌, ◌≡◌, ◌≤◌}

-- ---- what is computed lane by lane

-- a number beside what was computed of each lane
pub mapped : {A : Type 0} (f : ℕ → ℕ → ℕ) (g : A → ℕ) (xs : List A) (n y : ℕ) → length xs ≡ n → zip2 f (map g xs) (replicate n y) ≡ map (λ x. f (g x) y) xs
mapped = grind (arith, N.common_steps, N.zip2_splat, N.length-map, N.map-map)

-- of two vectors, each lane of the first with the one of the second
pub side_by_side : {A B : Type 0} (op : ℕ → ℕ → ℕ) (f : A → ℕ) (g : B → ℕ) (xs : List A) (ys : List B)
    → zip2 op (map f xs) (map g ys) ≡ map (λ (p : A × B). op (f p.0) (g p.1)) (zip2 (λ x y. (x, y)) xs ys)
side_by_side op f g (x ∷ xs) (y ∷ ys) = rw (side_by_side op f g xs ys)
side_by_side op f g xs ys = refl

-- and with what was computed of both
pub with_both : {A B : Type 0} (op : ℕ → ℕ → ℕ) (f : A → ℕ) (r : A × B → ℕ) (xs : List A) (ys : List B)
    → zip2 op (map f xs) (map r (zip2 (λ x y. (x, y)) xs ys)) ≡ map (λ (p : A × B). op (f p.0) (r p)) (zip2 (λ x y. (x, y)) xs ys)
with_both op f r (x ∷ xs) (y ∷ ys) = rw (with_both op f r xs ys)
with_both op f r xs ys = refl

-- so what is computed of vectors is one function of each lane
pub ruleset lanes = (mapped, N.zip2_splat, N.zip2_splat_left, N.zip2-map, N.map-map)

-- what two facts of each lane give
pub each_both : {A : Type 0} {P Q R : A → Type 0} → ((x : A) → P x → Q x → R x) → (xs : List A) → Each1 P xs → Each1 Q xs → Each1 R xs
each_both both [] p q = tt
each_both both (x ∷ xs) p q = (both x p.0 q.0, each_both both xs p.1 q.1)

-- two functions that are the same on what lists hold
pub same_map : {A B : Type 0} {P : A → Type 0} {f g : A → B} → ((x : A) → P x → f x ≡ g x) → (xs : List A) → Each1 P xs → map f xs ≡ map g xs
same_map same [] each = refl
same_map same (x ∷ xs) each = rw (same x each.0, same_map same xs each.1)

same_prefix : {A : Type 0} {P : A → Type 0} {p q : A → Bool} → ((x : A) → P x → p x ≡ q x) → (xs : List A) → Each1 P xs
    → N.prefix_len p xs ≡ N.prefix_len q xs
same_prefix same [] each = refl
same_prefix same (x ∷ xs) each = rw (same x each.0, same_prefix same xs each.1)

-- the masks of two tests that are the same on the lanes
pub mask_of : {A : Type 0} {P : A → Type 0} {p q : A → Bool} → ((x : A) → P x → p x ≡ q x) → (xs : List A) → length xs ≤ 64 → Each1 P xs
    → mask_l (map p xs) % 2 ^ 64 ≡ mask_l (map q xs)
mask_of same xs few each = N.mask_l-mod _ 64 (grind (arith, N.length-map)) ∙ N.ap mask_l (same_map same xs each)

-- so many lanes come before the first that passes
pub run_of : {A : Type 0} {P : A → Type 0} {q : A → Bool} (p : A → Bool) → ((x : A) → P x → not (p x) ≡ q x) → (xs : List A) {n : ℕ} → length xs ≡ n → n ≤ 64
    → Each1 P xs → N.first_set (mask_l (map p xs) % 2 ^ 64) n ≡ N.prefix_len q xs
run_of p same xs long few each =
    rw (N.mask_l-mod (map p xs) 64 (grind (arith, N.length-map))) (N.first_set_mask_l p xs _ long few ∙ same_prefix same xs each)

pub run_most : (q : ℕ → Bool) (d : List ℕ) (i n : ℕ) → i + n ≤ length d → N.prefix_len q (chunk i n d) ≤ n
run_most = grind (arith, N.prefix_len-le-length, N.length-chunk)

-- bytes that lie in others are the same as those
pub front_alike : (bytes source : List ℕ) (at n w : ℕ) → N.LiesIn bytes source → n ≤ w → at + n ≤ length bytes
    → take n (drop at bytes) ≡ take n (chunk at w source)
front_alike bytes source at n w lies few within =
    let k = length bytes - at in
    let all : at + k ≡ length bytes = omega arith in
    grind (arith, N.drop-take, N.take-take)

-- so many lanes have a small mask
mask_small : (k : ℕ) (ms : List Bool) → length ms ≤ k → mask_l ms < 2 ^ k
mask_small k ms few = let some = N.pow_pos k in grind (arith, N.mask_l-mod ms k)

-- a mask has the bits of its first lanes, and then the others
mask_parts : (n : ℕ) (ms : List Bool) → mask_l ms ≡ mask_l (take n ms) + 2 ^ n * mask_l (drop n ms)
mask_parts (suc n) (m ∷ ms) =
    let twice : 2 ^ suc n * mask_l (drop n ms) ≡ 2 * (2 ^ n * mask_l (drop n ms)) = rw (N.pow-succ' 2 n) (N.mul_assoc 2 (2 ^ n) _) in
    omega (arith, mask_parts n ms)
mask_parts n ms = omega arith

-- the lowest bits of a mask are those of the first lanes
pub first_lanes : (q : ℕ → Bool) (n : ℕ) (us : List ℕ) {mask : ℕ} → mask ≡ mask_l (map q us) → mask % 2 ^ n ≡ mask_l (map q (take n us))
first_lanes q n us is =
    let ms = map q us in
    rw (is, mask_parts n ms, N.add-mul-mod_self_left, ← N.take-map q n us) (N.mod-eq_of_lt (mask_small n (take n ms) (grind (arith, N.length-take))))

-- and those above, the others
pub last_lanes : (q : ℕ → Bool) (us : List ℕ) {mask : ℕ} → mask ≡ mask_l (map q us) → mask / 16 ≡ mask_l (map q (drop 4 us))
last_lanes = grind arith

-- and few bits
pub few_ones : (q : ℕ → Bool) (us : List ℕ) {mask : ℕ} → mask ≡ mask_l (map q us) → N.count_ones mask ≤ length us
few_ones = grind (arith, N.ones-mask_l, N.count_by-le-length)

-- so the mask of the first of eight lanes
pub first_mask : (q : ℕ → Bool) (us : List ℕ) (n : ℕ) {mask : ℕ} → length us ≡ 8 → n ≤ 8 → mask ≡ mask_l (map q (take n us))
    → (mask < 256) × (N.count_ones mask ≤ n)
first_mask = grind (arith, N.length-take-le, mask_small, N.length-map, few_ones)

-- none of the lanes of a mask passes
pub none_passes : (q : ℕ → Bool) (us : List ℕ) → mask_l (map q us) ≡ 0 → Each1 (λ u. q u ≡ false) us
none_passes q [] is = tt
none_passes q (u ∷ us) is = (grind arith, none_passes q us (omega arith))

-- a mask of lanes of which none passes
pub none_set : (q : ℕ → Bool) (us : List ℕ) → Each1 (λ u. q u ≡ false) us → mask_l (map q us) ≡ 0
none_set q [] each = refl
none_set q (u ∷ us) each = rw (each.0, none_set q us each.1)

-- none of the first passes, if their mask is empty
pub none_of_first : (q : ℕ → Bool) (us : List ℕ) (n : ℕ) {mask low : ℕ} → mask ≡ mask_l (map q us) → low ≡ mask % 2 ^ n → low ≡ 0
    → Each1 (λ u. q u ≡ false) (take n us)
none_of_first = grind (arith, none_passes, first_lanes)

-- the mask of lanes of which only the first may pass, as the others are zero
pub zeros_after : (q : ℕ → Bool) (n : ℕ) (us : List ℕ) (m : ℕ) {mask : ℕ} → mask ≡ mask_l (map q us) → drop n us ≡ replicate m 0 → q 0 ≡ false
    → mask ≡ mask_l (map q (take n us))
zeros_after q n us m is zeros fails =
    let rest : mask_l (map q (drop n us)) ≡ 0 = rw zeros (none_set q _ (N.Each1-replicate _ m 0 fails)) in
    is ∙ mask_parts n (map q us) ∙ rw (N.drop-map, rest, N.take-map) (omega arith)

pub ruleset front_tests = (N.Each1-weaker, N.is_other, N.is_wide, N.is_long, none_of_first, zeros_after)

-- ---- the first units

first_kept : (n m : ℕ) (us : List ℕ) → length us ≡ n + m → Each1 (Fits w16) us
    → zip2 bit_and us (replicate n 65535 ++ replicate m 0) ≡ take n us ++ replicate m 0
first_kept zero zero [] long fits = refl
first_kept zero (suc m) (u ∷ us) long fits = rw (N.and_zero_r u, first_kept zero m us (omega arith) fits.1)
first_kept (suc n) m (u ∷ us) long fits =
    rw (N.and_mask u 16 ∙ N.mod-eq_of_lt fits.0.fits, first_kept n m us (omega arith) fits.1)
first_kept n m us long fits = grind arith

-- a row of the table has the bits of so many units
first_row : (n : ℕ) → n < 9 → N.get_or N.FIRST n [] ≡ replicate n 65535 ++ replicate (8 - n) 0
first_row = grind arith

pub first_of : (n : ℕ) (us : List ℕ) {row : List ℕ} → length us ≡ 8 → n ≤ 8 → Each1 (Fits w16) us → row ≡ N.get_or N.FIRST n []
    → (take n (zip2 bit_and us row) ≡ take n us) × (drop n (zip2 bit_and us row) ≡ replicate (8 - n) 0)
first_of n us long few fits is =
    let size = N.length-take-le n us (omega arith) in
    rw (is, first_row n (omega arith), first_kept n (8 - n) us (omega arith) fits) (N.take_at (take n us) _ n size, N.drop_at (take n us) _ n size)

-- at most eight lanes come before the first that passes
pub first_few : (q : ℕ → Bool) (us : List ℕ) {mask : ℕ} → length us ≡ 8 → mask ≡ mask_l (map q us) → N.first_set mask 8 ≤ 8
first_few = grind (arith, N.first_set_mask_l, N.prefix_len-le-length)

-- ---- lanes of one load with those of the load a byte later

-- it stops just where a byte and the next one don't go on with a text of characters of one and two bytes
pub pair_stops : (a b : ℕ) → a < 256 → b < 256 → not (N.top 7 (bit_or
    (bit_or (cond (N.eqb a 34) 255 0) (N.bit_xor (cond (N.leb 192 a) 255 0) (cond (ltb ((a + 62) % 256) 30) 255 0)))
    (N.bit_xor (cond (ltb ((a + 62) % 256) 30) 255 0) (cond (ltb ((b + 128) % 256) 64) 255 0)))) ≡ N.is_joined (a, b)
pair_stops = grind (arith, N.common_steps, N.is_lead, N.is_trail)

module _ (d : List ℕ) (at : ℕ) (room : at + 16 < length d) where
  pub pairs_long : length (N.pairs_at at d) ≡ 16
  pairs_long =
      let here = N.length-chunk at 16 d (omega arith) in
      N.length-zip2 _ (chunk at 16 d) (chunk (at + 1) 16 d) (here ∙ N.sym (N.length-chunk (at + 1) 16 d (omega arith))) ∙ here

  pub pairs_fit : ((k : ℕ) → Fits w8 (N.get_or d k 0)) → Each1 (λ p. Fits w8 p.0 × Fits w8 p.1) (N.pairs_at at d)
  pairs_fit fits = N.Each1-zip2 _ _ _ _ (N.Each2-of (Fits w8) (Fits w8) _ (λ a b x y. (x, y)) _ _
      (N.chunk-fits w8 at 16 d fits) (N.chunk-fits w8 (at + 1) 16 d fits))

  pub pairs_most : N.prefix_len N.is_joined (N.pairs_at at d) ≤ 16
  pairs_most = grind (arith, N.prefix_len-le-length, pairs_long)

-- ---- whether a lane is long or not of ASCII, by the bits of all

-- lanes that have no bit of a mask together have none
none_masked : (m a : ℕ) (us : List ℕ) → fold_l bit_or a (map (λ u. bit_and u m) us) ≡ 0 → (a ≡ 0) × Each1 (λ u. bit_and u m ≡ 0) us
none_masked m a [] none = (none, tt)
none_masked m a (u ∷ us) none = let more = none_masked m (bit_or a (bit_and u m)) us none in grind (arith, N.le_or_l, N.le_or_r)

-- if they have no bit from one on, they are small
pub low_lanes : (k : ℕ) (us : List ℕ) → length us ≡ 8 → k ≤ 16 → Each1 (Fits w16) us
    → fold_l bit_or 0 (zip2 bit_and us (replicate 8 (65536 - 2 ^ k))) ≡ 0 → Each1 (λ u. u < 2 ^ k) us
low_lanes k us long most fits none =
    each_both (λ u small zero. let high = N.and_high_mask 16 k most u small.fits in let some = N.pow_pos k in grind arith) us fits
    (none_masked (65536 - 2 ^ k) 0 us (rw (N.zip2_splat bit_and us 8 (65536 - 2 ^ k) long) at none)).1

-- two of bits that are small together
pub small_either : (xs ys : List ℕ) → length xs ≡ length ys → Each1 (λ u. u < 128) (zip2 bit_or xs ys) → Each1 (λ u. u < 128) xs × Each1 (λ u. u < 128) ys
small_either [] [] same small = (tt, tt)
small_either (x ∷ xs) (y ∷ ys) same small =
    let here : (x < 128) × (y < 128) = grind (arith, N.le_or_l, N.le_or_r, small.0) in
    let later = small_either xs ys (omega arith) small.1 in
    ((here.0, later.0), (here.1, later.1))
small_either xs ys same small = grind arith

small_lanes : (us : List ℕ) → Each1 (λ u. u < 128) us → fold_l bit_or 0 (map (λ u. bit_and u 65408) us) ≡ 0
small_lanes [] small = refl
small_lanes (u ∷ us) small =
    let none : bit_and u 65408 ≡ 0 = grind (arith, N.and_high_mask 16 7 (omega arith) u (omega (arith, small.0)), small.0) in
    rw none (small_lanes us small.1)

module _ (xs ys : List ℕ) (long : length xs ≡ 8) (long' : length ys ≡ 8) where
  both_long : length (zip2 bit_or xs ys) ≡ 8
  both_long = grind (arith, N.length-zip2)

  both_fit : (k : ℕ) → Each1 (λ u. u < 2 ^ k) xs → Each1 (λ u. u < 2 ^ k) ys → Each1 (λ u. u < 2 ^ k) (zip2 bit_or xs ys)
  both_fit = grind (arith, N.common_steps, N.Each1-zip2, bit_or, N.Each2-of, N.or_lt)

  pub both_small : Each1 (Fits w16) xs → Each1 (Fits w16) ys → fold_l bit_or 0 (zip2 bit_and (zip2 bit_or xs ys) (replicate 8 65408)) ≡ 0
      → Each1 (λ u. u < 128) xs × Each1 (λ u. u < 128) ys
  both_small fits more none = small_either xs ys (omega (arith, long, long')) (low_lanes 7 _ both_long (omega arith)
      (N.Each1-weaker _ _ (λ u small. record { fits = small }) _ (both_fit 16 (N.below_from_Fits w16 xs fits) (N.below_from_Fits w16 ys more))) none)

  pub no_high : Each1 (λ u. u < 128) xs → Each1 (λ u. u < 128) ys
      → fold_l bit_or 0 (zip2 bit_and (zip2 bit_or xs ys) (replicate 8 65408)) ≡ 0
  no_high first second = rw (N.zip2_splat bit_and (zip2 bit_or xs ys) 8 65408 both_long) (small_lanes _ (both_fit 7 first second))

-- ---- whether sixteen bytes have a quote

-- a mask of quotes has no bits just where there are none
pub no_quotes : (bytes : List ℕ) {mask : ℕ} → mask ≡ mask_l (map (λ b. not (N.is_unquoted b)) bytes)
    → (N.nat_eq mask 0 ≡ true) ↔ Each1 (λ b. N.is_unquoted b ≡ true) bytes
no_quotes = grind (arith, N.common_steps, N.Each1-weaker, none_passes, N.is_unquoted, none_set)

-- two masks that have no bit together have none
pub no_bits : (a b : ℕ) → N.nat_eq (bit_or a b) 0 ≡ true → (N.nat_eq a 0 ≡ true) × (N.nat_eq b 0 ≡ true)
no_bits = grind (arith, N.le_or_l, N.le_or_r)
