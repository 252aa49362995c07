-- One character after the other of text in UTF-16.
use Rattle.tds_text.proofs as N
use N.{IsNext, Leads, List, arith, drop, emit, false, get_or, length, seam, take, true, unwrap_or, ℕ, [], ◌%◌, ◌&&◌, ◌*◌, ◌++◌, ◌+◌, ◌-◌, ◌<◌, ◌∷◌, ◌≡◌, ◌≤◌}
use N.{◌⊎◌}
use N.Utf16Laws.{front, front_step, fronts, joins_utf16, short, starts_low}
use Rattle.std.specs.Char.Utf16.{utf16_chars}
use Rattle.tds_text.specs.Utf16.{characters, is_high, rest, text, units}

pub text_nil : text [] ≡ []
unfolding utf16_chars
text_nil = N.refl

pub characters_nil : characters [] ≡ []
unfolding utf16_chars
characters_nil = N.refl

-- a unit that isn't the first of a pair
chars_one : (u : ℕ) (us : List ℕ) → (N.is_high_surrogate u && starts_low us) ≡ false
    → N.utf16_lossy_chars (u ∷ us) ≡ unwrap_or (N.lone_unit_char u) 0xFFFD ∷ N.utf16_lossy_chars us
unfolding utf16_chars
chars_one u us h = N.ap (N.map (λ o. unwrap_or o 0xFFFD)) (N.Utf16Laws.chars-apart (u ∷ []) us h)

spells_one : (low high : ℕ) (bytes : List ℕ) (code : ℕ) → unwrap_or (N.lone_unit_char (low + 256 * high)) 0xFFFD ≡ code
    → (is_high low high ≡ true → starts_low (units bytes) ≡ false) → characters (low ∷ high ∷ bytes) ≡ N.encode_utf8 code ++ characters bytes
spells_one = grind (arith, chars_one)

spells_pair : (low high low' high' : ℕ) (bytes : List ℕ) → is_high low high ≡ true → N.is_low_surrogate (low' + 256 * high') ≡ true
    → characters (low ∷ high ∷ low' ∷ high' ∷ bytes) ≡ N.encode_utf8 (N.surrogate_pair_char (low + 256 * high) (low' + 256 * high')) ++ characters bytes
unfolding utf16_chars
spells_pair = grind arith

-- the text of a front, from its characters
emits_by : (bytes more : List ℕ) (code : ℕ) → characters (front bytes) ≡ N.encode_utf8 code ++ characters (front more)
    → emit rest text bytes ≡ N.doubled (N.encode_utf8 code) ++ emit rest text more
emits_by = grind (arith, N.JoiningLemmas.emit-front fronts, N.JoiningLemmas.doubled-append)

-- a unit that is no high surrogate
pub next_one : (low high : ℕ) (bytes : List ℕ) (code : ℕ) → is_high low high ≡ false → unwrap_or (N.lone_unit_char (low + 256 * high)) 0xFFFD ≡ code
    → IsNext (low ∷ high ∷ bytes) code 2
next_one low high bytes code h e = record {
  emits = emits_by (low ∷ high ∷ bytes) bytes code (grind (arith, front_step, spells_one, front));
  keeps = grind arith;
  spells = grind (arith, spells_one);
}

pub lone_other : (u : ℕ) → N.is_high_surrogate u ≡ false → N.is_low_surrogate u ≡ false → unwrap_or (N.lone_unit_char u) 0xFFFD ≡ u
lone_other = grind arith

pub lone_half : (u : ℕ) → (N.is_high_surrogate u ≡ true) ⊎ (N.is_low_surrogate u ≡ true) → unwrap_or (N.lone_unit_char u) 0xFFFD ≡ 0xFFFD
lone_half = grind arith

-- a high surrogate before a unit that is no low one
next_alone : (low high low' high' : ℕ) (bytes : List ℕ) → is_high low high ≡ true → N.is_low_surrogate (low' + 256 * high') ≡ false
    → IsNext (low ∷ high ∷ low' ∷ high' ∷ bytes) 0xFFFD 2
unfolding starts_low
next_alone low high low' high' bytes h l =
    let lone = lone_half (low + 256 * high) (N.inl h) in
    record {
      emits = emits_by (low ∷ high ∷ low' ∷ high' ∷ bytes) (low' ∷ high' ∷ bytes) 0xFFFD (grind (arith, spells_one, front));
      keeps = N.refl;
      spells = spells_one low high (low' ∷ high' ∷ bytes) 0xFFFD lone (λ _. l);
    }

-- a pair
next_pair : (low high low' high' : ℕ) (bytes : List ℕ) → is_high low high ≡ true → N.is_low_surrogate (low' + 256 * high') ≡ true
    → IsNext (low ∷ high ∷ low' ∷ high' ∷ bytes) (N.surrogate_pair_char (low + 256 * high) (low' + 256 * high')) 4
next_pair low high low' high' bytes h l =
    record {
      emits = emits_by (low ∷ high ∷ low' ∷ high' ∷ bytes) bytes (N.surrogate_pair_char (low + 256 * high) (low' + 256 * high'))
          (grind (arith, front_step, spells_pair, front));
      keeps = grind arith;
      spells = grind (arith, spells_pair);
    }

-- whole data of which all is withheld is a high surrogate
pub spells_held : (xs : List ℕ) → 2 ≤ length xs → length xs % 2 ≡ 0 → rest xs ≡ xs → characters xs ≡ N.encode_utf8 0xFFFD ++ characters (drop 2 xs)
unfolding starts_low
spells_held = grind (arith, short, N.nat_tests, N.and_right, N.encode_utf8_all, chars_one)

-- the bytes from a place on, the first ones named
drop_two : (xs : List ℕ) (i : ℕ) → i + 1 < length xs → drop i xs ≡ get_or xs i 0 ∷ get_or xs (i + 1) 0 ∷ drop (i + 2) xs
drop_two = grind (arith, N.drop_more)

drop_four : (xs : List ℕ) (i : ℕ) → i + 3 < length xs
    → drop i xs ≡ get_or xs i 0 ∷ get_or xs (i + 1) 0 ∷ get_or xs (i + 2) 0 ∷ get_or xs (i + 3) 0 ∷ drop (i + 4) xs
drop_four = grind (arith, drop_two)

-- ---- the steps from a place on, by the units that stand there

pub one_at : (xs : List ℕ) (i : ℕ) {u code : ℕ} → i + 1 < length xs → u ≡ get_or xs i 0 + 256 * get_or xs (i + 1) 0 → N.is_high_surrogate u ≡ false
    → unwrap_or (N.lone_unit_char u) 0xFFFD ≡ code → IsNext (drop i xs) code 2
one_at xs i within is h e = rw drop_two (next_one _ _ _ _ (rw is at h) (rw is at e))

module _ (xs : List ℕ) (i : ℕ) {u v : ℕ} (within : i + 3 < length xs) (first : u ≡ get_or xs i 0 + 256 * get_or xs (i + 1) 0)
    (second : v ≡ get_or xs (i + 2) 0 + 256 * get_or xs (i + 2 + 1) 0) (high : N.is_high_surrogate u ≡ true) where
  second_is : v ≡ get_or xs (i + 2) 0 + 256 * get_or xs (i + 3) 0
  second_is = grind arith

  pub alone_at : N.is_low_surrogate v ≡ false → IsNext (drop i xs) 0xFFFD 2
  alone_at low = rw drop_four (next_alone _ _ _ _ _ (rw first at high) (grind arith))

  pub pair_at : N.is_low_surrogate v ≡ true → IsNext (drop i xs) (N.surrogate_pair_char u v) 4
  pair_at low = rw (drop_four, first, second_is) (next_pair _ _ _ _ _ (rw first at high) (grind arith))

-- ---- where a conversion of UTF-16 has come to what is withheld

-- The text so far is that of all that is fixed.
pub record Ended (bytes to : List ℕ) (used made : ℕ) : Type 0 where
  pub emits : take made to ≡ emit rest text bytes
  pub leaves : N.LeavesRest bytes 0 used

-- nothing after this place is fixed
pub ends_held : {bytes to : List ℕ} {used made : ℕ} → N.Converts bytes to used made → rest (drop used bytes) ≡ drop used bytes → Ended bytes to used made
ends_held {bytes} {to} {used} {made} before held =
    record {
      emits = rw (before.leads.emits, N.JoiningLemmas.emit_held rest text (drop used bytes) text_nil held, N.append-nil);
      leaves = grind (arith, N.common_steps, short);
    }

-- no whole unit does
few_held : (xs : List ℕ) → length xs ≤ 1 → rest xs ≡ xs
few_held = grind arith

pub ends_short : {bytes to : List ℕ} {used made : ℕ} → N.Converts bytes to used made → length bytes < used + 2 → Ended bytes to used made
ends_short = grind (arith, ends_held, few_held, N.length-drop)

-- the text of whole data goes on with that of what is left of them
pub whole_leads : {bytes more out : List ℕ} → Leads rest text bytes more out → length bytes % 2 ≡ 0 → length more % 2 ≡ 0 → text bytes ≡ out ++ text more
whole_leads {bytes} {more} leads whole even =
    grind (arith, joins_utf16.ends bytes whole, joins_utf16.ends more even, leads.emits, leads.keeps, N.append_assoc)

-- and ends where nothing is
pub all_led : {bytes more out : List ℕ} → Leads rest text bytes more out → length bytes % 2 ≡ 0 → length more ≡ 0 → out ≡ text bytes
all_led = grind (arith, N.common_steps, whole_leads, N.nil_from_length, text_nil, N.append-nil)

-- ---- withheld bytes of text in UTF-16, with the first ones of a piece

-- where the text goes on after that of the seam
abbrev pub after : List ℕ → List ℕ → List ℕ
after [] piece = piece
after (byte ∷ kept) piece = rest (byte ∷ kept ++ take 3 piece) ++ drop 3 piece

pub Leads-after : (kept piece : List ℕ) → Leads rest text (kept ++ piece) (after kept piece) (emit rest text (seam kept piece))
Leads-after [] piece = rw text_nil N.JoiningLemmas.Leads-none
Leads-after (byte ∷ kept) piece = N.JoiningLemmas.Leads-seam-front joins_utf16 (byte ∷ kept) piece 3 tt

-- nothing is withheld
pub none_leads : {kept : List ℕ} (piece : List ℕ) → kept ≡ [] → Leads rest text (kept ++ piece) piece (emit rest text (seam kept piece))
none_leads = grind (arith, Leads-after)

-- some bytes are withheld
seam_some : (kept piece : List ℕ) → 0 < length kept → seam kept piece ≡ kept ++ take 3 piece
seam_some = grind arith

pub some_leads : {kept own : List ℕ} (piece bytes : List ℕ) (used : ℕ) → kept ≡ own → 0 < length kept → 3 ≤ length piece
    → bytes ≡ kept ++ take 3 piece → N.LeavesRest bytes 0 used
    → Leads rest text (own ++ piece) (drop (used - length kept) piece) (emit rest text (seam own piece))
some_leads {kept} piece bytes used same some long is left =
    rw (← same, seam_some kept piece some, ← is) (N.JoiningLemmas.Leads-seam joins_utf16 kept piece bytes 3 used is tt
    (grind (arith, N.length-append)) left.within left.rest)
