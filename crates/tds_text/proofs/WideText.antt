-- The text of units that are characters of at most three bytes.
use Rattle.tds_text.proofs as N
use N.{Bool, Each1, Fits, List, arith, chunk, count_ones, drop, evens, false, flat_map, get_or, is_long, is_wide, length, map, mask_l, quad_bytes, refl, suc}
use N.{take, triples, true, units_text, w16, zero, ℕ, [], ◌%◌, ◌*◌, ◌++◌, ◌+◌, ◌-◌, ◌/◌, ◌<◌, ◌↔◌, ◌∙◌, ◌∷◌, ◌≡◌, ◌≤◌}
use N.Characters.{doubled_character, of_one, of_three, of_two}
use N.JoiningLemmas.{Leads-none, Leads-trans}
use N.Lookup.{IsRow, bits, lowest_bit, placed}
use Rattle.tds_text.specs.Utf16.{units, rest, text}

-- how long the text of units is
text_size : (us : List ℕ) {wide long : ℕ} → Each1 (λ u. u < 65536) us → wide ≡ mask_l (map is_wide us) → long ≡ mask_l (map is_long us)
    → length (units_text us) ≡ length us + (count_ones wide + count_ones long)
text_size us range wide_is long_is = rw (wide_is, long_is, N.ones-mask_l, N.ones-mask_l) (sizes us range)
  where
    sizes : (us : List ℕ) → Each1 (λ u. u < 65536) us → length (units_text us) ≡ length us + (N.count_by is_wide us + N.count_by is_long us)
    sizes [] small = refl
    sizes (u ∷ us) small =
        let one : length (N.unit_text u) ≡ 1 + (N.cond (is_wide u) 1 0 + N.cond (is_long u) 1 0) =
        grind (arith, of_one, of_two, of_three, doubled_character, small.0) in
        let more = sizes us small.1 in
        grind (arith, N.length-append, N.common_steps)

-- units are numbers of 16 bits
unit_range : (us : List ℕ) → Each1 (Fits w16) us → Each1 (λ u. u < 65536) us
unit_range = N.below_from_Fits w16

pub each_taken : (P : ℕ → Type 0) (n : ℕ) (us : List ℕ) → Each1 P us → Each1 P (take n us)
each_taken P = N.Each1-chunk P 0

each_left : (P : ℕ → Type 0) (n : ℕ) (us : List ℕ) → Each1 P us → Each1 P (drop n us)
each_left P (suc n) (u ∷ us) each = each_left P n us each.1
each_left P n us each = grind arith

-- the first and the other units
split_lanes : (lane : ℕ → List ℕ) (n : ℕ) (us : List ℕ) → flat_map lane us ≡ flat_map lane (take n us) ++ flat_map lane (drop n us)
split_lanes lane n us = N.sym (grind (arith, N.take-append-drop)) ∙ N.flat_map-append lane (take n us) (drop n us)

-- The bytes of the unit at the places for it are its text.
record IsLane (size : ℕ) (lane : ℕ → List ℕ) (places : Bool → Bool → List ℕ) (u : ℕ) : Type 0 where
  wide : length (lane u) ≡ size
  inside : Each1 (λ k. k < length (lane u)) (places (is_wide u) (is_long u))
  text : map (λ k. get_or (lane u) k 0) (places (is_wide u) (is_long u)) ≡ N.unit_text u

-- their text is gathered from the bytes of units after others, by their masks
gathered : (size : ℕ) (lane : ℕ → List ℕ) (places : Bool → Bool → List ℕ) (m : ℕ) (front us more : List ℕ) → length us ≤ m
    → Each1 (IsLane size lane places) us → (rest : List ℕ) × (map (λ j. get_or (front ++ (flat_map lane us ++ more)) j 0)
    (placed size (length front) (N.zip2 places (bits m (mask_l (map is_wide us))) (bits m (mask_l (map is_long us))))) ≡ units_text us ++ rest)
gathered size lane places m front [] more few each = (_, refl)
gathered size lane places (suc m) front (u ∷ us) more few each =
    let wide = lowest_bit (is_wide u) (mask_l (map is_wide us)) in
    let long = lowest_bit (is_long u) (mask_l (map is_long us)) in
    let later = flat_map lane us ++ more in
    let there : length (front ++ lane u) ≡ length front + size = grind (arith, N.length-append, each.0) in
    let rest = gathered size lane places m (front ++ lane u) us more (omega arith) each.1 in
    let others = rw (N.append_assoc front (lane u) later, there) at rest.1 in (
      rest.0,
      rw (
        wide.0,
        wide.1,
        long.0,
        long.1,
        N.append_assoc (lane u) (flat_map lane us) more,
        N.map-append,
        N.Lookup.one_lane front (lane u) later _ each.0.inside,
        each.0.text,
        others,
        N.append_assoc,
      ),
    )
gathered size lane places m front us more few each = absurd (omega arith)

row_taken : (size m : ℕ) (lane : ℕ → List ℕ) (places : Bool → Bool → List ℕ) (us more : List ℕ) {row xs : List ℕ} {wide long : ℕ}
    → IsRow row (placed size 0 (N.zip2 places (bits m wide) (bits m long))) → length us ≤ m → xs ≡ flat_map lane us ++ more
    → wide ≡ mask_l (map is_wide us) → long ≡ mask_l (map is_long us) → Each1 (λ u. u < 65536) us → Each1 (IsLane size lane places) us
    → take (length us + (count_ones wide + count_ones long)) (map (λ j. get_or xs j 0) row) ≡ units_text us
row_taken size m lane places us more is_row few is wide_is long_is range each =
    let found = gathered size lane places m [] us more few each in
    let begins = rw (wide_is, long_is) at is_row.is in
    rw (← text_size us range wide_is long_is, is, begins, N.map-append, found.1, N.append_assoc) (N.take-append_seam (units_text us) _)

-- that of short characters from the bytes of eight
pub pairs_taken : (us : List ℕ) (n : ℕ) {xs : List ℕ} {wide : ℕ} → length us ≡ 8 → n ≤ 8 → Each1 (Fits w16) us → xs ≡ flat_map N.pair_bytes us
    → wide ≡ mask_l (map is_wide (take n us)) → Each1 (λ u. is_long u ≡ false) (take n us)
    → take (n + count_ones wide) (map (λ j. get_or xs j 0) (get_or N.PAIRS wide [])) ≡ units_text (take n us)
pairs_taken us n {wide} eight few fits bytes is short =
    let vs = take n us in
    let counted : length vs ≡ n = N.length-take-le n us (omega arith) in
    let size : length vs + (count_ones wide + count_ones 0) ≡ n + count_ones wide = omega (arith, N.ones-mask_l is_long []) in
    rw size at (row_taken 2 8 N.pair_bytes N.Lookup.pair_places vs (flat_map N.pair_bytes (drop n us))
    (N.Lookup.pair_row wide (N.LaneMasks.first_mask is_wide us n eight few is).0)
    (omega arith) (bytes ∙ split_lanes N.pair_bytes n us) is (N.sym (N.LaneMasks.none_set is_long vs short)) (unit_range vs (each_taken (Fits w16) n us fits))
    (N.Each1-weaker _ _ (λ u low. record { wide = refl; inside = grind arith; text = grind (arith, of_one, of_two) }) vs short))

-- and that of any from the bytes of four
pub quads_taken : (us more : List ℕ) {xs : List ℕ} {wide long : ℕ} → length us ≤ 4 → wide < 16 → long < 16 → xs ≡ flat_map quad_bytes us ++ more
    → wide ≡ mask_l (map is_wide us) → long ≡ mask_l (map is_long us) → Each1 (λ u. u < 65536) us
    → take (length us + count_ones (wide + 16 * long)) (map (λ j. get_or xs j 0) (get_or N.QUADS (wide + 16 * long) [])) ≡ units_text us
quads_taken us more {wide} {long} few small small' is wide_is long_is range =
    rw (← (N.Lookup.ones_of_two wide long small small').0) at (row_taken 4 4 quad_bytes N.Lookup.quad_places us more
    (N.Lookup.quad_row wide long small small') few is wide_is long_is range
    (N.Each1-weaker _ _ (λ u low. record { wide = refl; inside = grind arith; text = grind (arith, of_one, of_two, of_three, doubled_character) }) us range))

pub ruleset unit_tests = (N.LaneMasks.zeros_after, is_wide, is_long, N.Each1-weaker, each_taken)

take_both : (n m : ℕ) (us : List ℕ) → take n (take m us) ≡ take m (take n us)
take_both = grind (arith, N.cases_lt, N.take-take, N.take_all, N.length-take)

-- what was written of so many characters: of the first four, and of all
module _ (us : List ℕ) (n : ℕ) {old new xs : List ℕ} {at end m wide long : ℕ} (fits : (length us ≡ 8) × Each1 (Fits w16) us) (few : n ≤ 8)
    (wide_is : wide ≡ mask_l (map is_wide (take n us))) (long_is : long ≡ mask_l (map is_long (take n us)))
    (is : xs ≡ flat_map quad_bytes (take 4 us)) (adds : N.AddsQuads old new at end m xs (wide % 16) (long % 16)) where
  first_added : length (take 4 (take n us)) ≡ m → (take end new ≡ take at old ++ units_text (take 4 (take n us))) × (end ≤ at + 3 * m)
  first_added counted =
      let vs = take n us in
      adds.adds (take 4 vs) (flat_map quad_bytes (drop n (take 4 us))) counted (is ∙ rw (take_both n 4 us) at (split_lanes quad_bytes n (take 4 us)))
      (N.LaneMasks.first_lanes is_wide 4 vs wide_is) (grind arith) (grind (arith, each_taken, unit_range))

  pub few_added : n ≤ 4 → m ≡ n → (take end new ≡ take at old ++ units_text (take n us)) × (end ≤ at + 3 * n)
  few_added small counted =
      let size = N.length-take-le n us (omega arith) in
      grind (arith, N.take_all, first_added)

  pub middle_added : 4 ≤ n → m ≡ 4 → end ≤ at + 12
  middle_added = grind (arith, first_added, N.length-take, N.length-take-le)

  pub all_added : {last ys : List ℕ} {stop : ℕ} → 4 ≤ n → m ≡ 4 → ys ≡ flat_map quad_bytes (drop 4 us)
      → N.AddsQuads new last end stop (n - 4) ys (wide / 16) (long / 16) → (take stop last ≡ take at old ++ units_text (take n us)) × (stop ≤ at + 3 * n)
  all_added many counted ys_is more =
      let vs = take n us in
      let size = N.length-take-le n us (omega arith) in
      let first = first_added (grind arith) in
      let others = more.adds (drop 4 vs) (flat_map quad_bytes (drop (n - 4) (drop 4 us))) (grind arith)
      (grind (arith, N.drop-take, split_lanes)) (N.LaneMasks.last_lanes is_wide vs wide_is)
      (N.LaneMasks.last_lanes is_long vs long_is) (grind (arith, each_left, each_taken, unit_range)) in
      grind (arith, N.append_assoc, split_lanes)

-- long characters have three bytes each
long_texts : (n : ℕ) (us : List ℕ) → Each1 (λ u. u < 65536) us → Each1 (λ u. is_long u ≡ true) (take n us) → take (3 * n) (triples us) ≡ units_text (take n us)
long_texts zero us small each = refl
long_texts (suc n) [] small each =
    let three : 3 * suc n ≡ suc (suc (suc (3 * n))) = omega arith in
    rw three
long_texts (suc n) (u ∷ us) small each =
    let three : 3 * suc n ≡ suc (suc (suc (3 * n))) = omega arith in
    let text : N.unit_text u ≡ (224 + u / 4096) ∷ (128 + u / 64 % 64) ∷ (128 + u % 64) ∷ [] = grind (arith, of_three, small.0, each.0) in
    rw (three, text, ← long_texts n us small.1 each.1)

shorter : (k m : ℕ) (xs ys : List ℕ) → k ≤ m → take m xs ≡ take m ys → take k xs ≡ take k ys
shorter k m xs ys few same = rw (← N.take-take k m xs few, same) (N.take-take k m ys few)

-- the text of the first of them is in the first half, or in two
module _ (us low old new : List ℕ) (at n : ℕ) (fits : Each1 (Fits w16) us) (long : Each1 (λ u. is_long u ≡ true) (take n us))
    (low_is : take 12 low ≡ take 12 (triples us)) where
  pub in_one_half : n ≤ 4 → take (at + 3 * n) new ≡ take at old ++ take (3 * n) low → take (at + 3 * n) new ≡ take at old ++ units_text (take n us)
  in_one_half few written = let front = shorter (3 * n) 12 low (triples us) (omega arith) low_is in grind (arith, long_texts, unit_range)

  pub in_two_halves : (high middle : List ℕ) → 4 < n → n ≤ 8 → take 12 high ≡ take 12 (drop 12 (triples us))
      → take (at + 12) middle ≡ take at old ++ take 12 low → take (at + 12 + (3 * n - 12)) new ≡ take (at + 12) middle ++ take (3 * n - 12) high
      → take (at + 3 * n) new ≡ take at old ++ units_text (take n us)
  in_two_halves high middle many most high_is first second =
      let k = 3 * n - 12 in
      let all : 12 + k ≡ 3 * n = omega arith in
      let back = shorter k 12 high (drop 12 (triples us)) (omega arith) high_is in
      let joined : take 12 (triples us) ++ take k (drop 12 (triples us)) ≡ units_text (take n us) =
      grind (arith, N.take-add, long_texts, unit_range) in
      grind (arith, N.append_assoc)

-- the low bytes of characters of ASCII are their text
plain_texts : (n : ℕ) (ys : List ℕ) → Each1 (λ u. is_wide u ≡ false) (take n (units ys)) → take n (evens ys) ≡ units_text (take n (units ys))
plain_texts (suc n) (low ∷ high ∷ ys) each = grind (arith, of_one, each.0, plain_texts n ys each.1)
plain_texts n ys each = grind arith

-- two bytes are a unit
pub length-units : (xs : List ℕ) → length (units xs) ≡ length xs / 2
length-units (low ∷ high ∷ xs) = let more = length-units xs in grind arith
length-units xs = grind arith

-- the bytes at every second place, so many from one on
abbrev every_second : ℕ → List ℕ → ℕ → List ℕ
every_second zero zs i = []
every_second (suc k) zs i = N.slice_index_or zs i 0 ∷ every_second k zs (suc (suc i))

later_places : (k a b : ℕ) (zs : List ℕ) (i : ℕ) → every_second k (a ∷ b ∷ zs) (suc (suc i)) ≡ every_second k zs i
later_places zero a b zs i = refl
later_places (suc k) a b zs i = rw (later_places k a b zs (suc (suc i)))

pub evens_at : (k : ℕ) (zs : List ℕ) → length zs ≡ 2 * k → every_second k zs 0 ≡ evens zs
evens_at (suc k) (a ∷ b ∷ zs) long = rw (later_places k a b zs 0, evens_at k zs (omega arith))
evens_at k zs long = grind arith

-- units below 128 whose low bytes are no quotes are characters of ASCII and no quotes
plain_units : (ys : List ℕ) → Each1 (λ u. is_wide u ≡ false) (units ys) ↔ (Each1 (λ u. u < 128) (units ys) × Each1 (λ b. N.is_unquoted b ≡ true) (evens ys))
plain_units (low ∷ high ∷ ys) =
    let more = plain_units ys in (
      λ plain. let here : (low + 256 * high < 128) × (N.is_unquoted low ≡ true) = grind (arith, plain.0) in
          let later = more.0 plain.1 in ((here.0, later.0), (here.1, later.1)),
      λ parts. (grind (arith, parts.0.0, parts.1.0), more.1 (parts.0.1, parts.1.1)),
    )
plain_units ys = (λ _. (tt, tt), λ _. tt)

units-append : (k : ℕ) (xs ys : List ℕ) → length xs ≡ 2 * k → units (xs ++ ys) ≡ units xs ++ units ys
units-append (suc k) (low ∷ high ∷ xs) ys long = rw (units-append k xs ys (omega arith))
units-append k xs ys long = grind arith

each-append : (P : ℕ → Type 0) (xs ys : List ℕ) → Each1 P (xs ++ ys) ↔ (Each1 P xs × Each1 P ys)
each-append P [] ys = (λ each. (tt, each), λ both. both.1)
each-append P (x ∷ xs) ys = let more = each-append P xs ys in
    (λ each. ((each.0, (more.0 each.1).0), (more.0 each.1).1), λ both. (both.0.0, more.1 (both.0.1, both.1)))

-- those of two loads, of which the first has so many
pub both_plain : (k : ℕ) (xs ys : List ℕ) → length xs ≡ 2 * k → Each1 (λ u. is_wide u ≡ false) (units (xs ++ ys))
    ↔ ((Each1 (λ u. u < 128) (units xs) × Each1 (λ u. u < 128) (units ys)) × Each1 (λ b. N.is_unquoted b ≡ true) (evens (xs ++ ys)))
both_plain k xs ys long =
    let joined = units-append k xs ys long in (
      λ plain. let parts = (plain_units (xs ++ ys)).0 plain in ((each-append _ _ _).0 (rw joined at parts.0), parts.1),
      λ parts. (plain_units (xs ++ ys)).1 (rw joined ((each-append _ _ _).1 parts.0), parts.1),
    )

-- the first of so many are characters of ASCII, and were written
pub plain_added : (ys old new kept : List ℕ) {us low : List ℕ} {at : ℕ} (n w : ℕ) → n ≤ w → at ≤ length old → us ≡ units ys
    → take n kept ≡ take n us → Each1 (λ u. is_wide u ≡ false) kept → low ≡ evens ys → take (at + w) new ≡ take at old ++ take w low
    → N.AddsUnits old new at (at + n) n (units ys)
plain_added ys old new kept {low = low} {at} n w few within is same none low_is written =
    let plain = rw (same, is) at (each_taken _ n kept none) in record {
      most = omega arith;
      written = rw (N.take-take n w low few, low_is) at (N.Characters.front_written old new _ at n w few within written)
          ∙ N.ap (λ l. take at old ++ l) (plain_texts n ys plain);
      single = grind (arith, N.Each1-weaker);
    }

leads_unit : (low high : ℕ) (more : List ℕ) → N.is_half (low + 256 * high) ≡ false → N.Leads rest text (low ∷ high ∷ more) more (N.unit_text (low + 256 * high))
leads_unit = grind (arith, N.Utf16Steps.next_one)

-- so many of the units lead on
pub leads_front : (k : ℕ) (ys more : List ℕ) → k ≤ length (units ys) → Each1 (λ u. N.is_half u ≡ false) (take k (units ys))
    → N.Leads rest text (take (2 * k) ys ++ more) more (units_text (take k (units ys)))
leads_front zero ys more few each = Leads-none
leads_front (suc k) (low ∷ high ∷ ys) more few each =
    let two : suc (suc (2 * k)) ≡ 2 * suc k = omega arith in
    rw (← two) (Leads-trans (leads_unit low high (take (2 * k) ys ++ more) each.0) (leads_front k ys more (omega arith) each.1))
leads_front k ys more few each = grind arith

-- two loads after one another are one
pub two_chunks : (n m at : ℕ) (bytes : List ℕ) → chunk at n bytes ++ chunk (at + n) m bytes ≡ chunk at (n + m) bytes
two_chunks = grind (arith, N.common_steps, N.take-add, N.drop-drop)

-- all the bytes are a source of their own
pub lies_itself : (bytes : List ℕ) → N.LiesIn bytes bytes
lies_itself = grind (arith, N.common_steps)

-- before the first unit nothing was
pub none_converted : (bytes to : List ℕ) → N.Converts bytes to 0 0
none_converted = grind (arith, N.common_steps)

-- so many units of a source that begins with the bytes were converted after what was before
pub units_more : {bytes source old new : List ℕ} {at made after n : ℕ} (w : ℕ) → N.LiesIn bytes source → at + 2 * w ≤ length source → n ≤ w
    → at + 2 * n ≤ length bytes → N.AddsUnits old new made after n (units (chunk at (2 * w) source)) → N.Converts bytes old at made
    → N.Converts bytes new (at + 2 * n) after
units_more {bytes} {source} {at = at} {n = n} w lies room few within added before =
    let ys = chunk at (2 * w) source in
    let counted : length (units ys) ≡ w = omega (arith, length-units ys, N.length-chunk at (2 * w) source room) in
    let next = rw (← (N.LaneMasks.front_alike bytes source at (2 * n) (2 * w) lies (omega arith) within), N.take-append-drop, N.drop-drop (2 * n) at bytes) at
    (leads_front n ys (drop (2 * n) (drop at bytes)) (omega arith) added.single) in
    let most = added.most in
    record { within = within; room = omega arith; leads = rw added.written (Leads-trans before.leads next) }

-- so were all of so many units of the bytes
pub all_more : {bytes old new : List ℕ} {at made after : ℕ} (w : ℕ) → at + 2 * w ≤ length bytes
    → N.AddsUnits old new made after w (units (chunk at (2 * w) bytes)) → N.Converts bytes old at made → N.Converts bytes new (at + 2 * w) after
all_more {bytes} w room = units_more w (lies_itself bytes) room (omega arith) room

-- so were sixteen units of two loads, of characters of ASCII
pub plain_more : {bytes old new low : List ℕ} {at end made : ℕ} → at + 32 ≤ end → length new ≡ length old
    → Each1 (λ u. is_wide u ≡ false) (units (chunk at 16 bytes ++ chunk (at + 16) 16 bytes)) → low ≡ evens (chunk at 16 bytes ++ chunk (at + 16) 16 bytes)
    → take (made + 16) new ≡ take made old ++ take 16 low → N.MayConvertSingles bytes old at end made
    → N.MayConvertSingles bytes new (at + 32) end (made + 16)
plain_more {bytes} {old} {new} {at = at} room same plain low_is written may =
    let two = two_chunks 16 16 at bytes in
    record {
      before = all_more 16 (omega arith) (plain_added (chunk at 32 bytes) old new _ 16 16 (omega arith) (omega arith) refl refl (rw two at plain)
          (low_is ∙ N.ap evens two) written) may.before;
      more = room;
      within = may.within;
      room = omega arith;
    }
