-- Text in UTF-8 that is judged while it is converted, a run after the other.
use Rattle.tds_text.proofs as N
use N.{List, arith, drop, get_or, length, take, ℕ, [], ◌*◌, ◌++◌, ◌+◌, ◌-◌, ◌<◌, ◌↔◌, ◌∷◌, ◌≡◌, ◌≤◌}
use N.JoiningLemmas.{doubled_bytewise, emits}
use Rattle.tds_text.specs.Utf8.{Begins, rest, text}
use Rattle.tds_text.specs.Utf8Scan.{AreUnquoted, Converts, ConvertsBegun, IsScan}

-- the next two bytes, and the next three
pub two_there : (bytes : List ℕ) (at : ℕ) → at + 2 ≤ length bytes → take 2 (drop at bytes) ≡ get_or bytes at 0 ∷ get_or bytes (at + 1) 0 ∷ []
two_there = grind (arith, N.drop_more)

pub three_there : (bytes : List ℕ) (at : ℕ) → at + 3 ≤ length bytes
    → take 3 (drop at bytes) ≡ get_or bytes at 0 ∷ get_or bytes (at + 1) 0 ∷ get_or bytes (at + 2) 0 ∷ []
three_there = grind (arith, N.drop_more)

module _ {bytes old new : List ℕ} {at made : ℕ} (before : Converts bytes old at made) where
  -- bytes that are text, and without quotes, were added
  pub added : {n : ℕ} → take (made + n) new ≡ take made old ++ take n (drop at bytes) → AreUnquoted bytes at n → Converts bytes new (at + n) (made + n)
  added {n} written next = record {
    within = next.within;
    room = grind arith;
    whole = rw (N.take-add at n bytes) (N.IsUtf8-append _ _ before.whole next.whole);
    text = N.Singles.itself_taken doubled_bytewise bytes at n written next.unquoted before.text;
  }

  -- so were bytes of ASCII
  pub added_plain : (n : ℕ) → at + n ≤ length bytes → take (made + n) new ≡ take made old ++ take n (drop at bytes)
      → N.ArePlain (take n (drop at bytes)) → Converts bytes new (at + n) (made + n)
  added_plain = grind (arith, N.common_steps, added, N.Singles.plain_utf8, N.Singles.plain_doubled)

  -- a byte of ASCII was added, twice if it is a quote
  pub added_one : {end : ℕ} → at < length bytes → get_or bytes at 0 < 128 → end ≤ made + 2
      → take end new ≡ take made old ++ N.doubled (get_or bytes at 0 ∷ []) → Converts bytes new (at + 1) end
  added_one within ascii most written = record {
    within = omega arith;
    room = grind arith;
    whole = rw (N.take_more bytes at 0 within) (N.IsUtf8-append _ _ before.whole (N.Singles.one_utf8 _ ascii));
    text = N.Singles.one_taken doubled_bytewise bytes at within written before.text;
  }

-- ---- what follows whole characters

module _ (a b : List ℕ) (whole : N.IsUtf8 a) where
  none_left : rest a ≡ []
  none_left = grind (arith, N.utf8_valid_len-IsUtf8, N.drop_of_length-le)

  whole_emits : N.emit rest text (a ++ b) ≡ text a ++ N.emit rest text b
  whole_emits = grind (arith, emits N.Utf8Laws.fronts, none_left, N.take_all)

  whole_keeps : rest (a ++ b) ≡ rest b
  whole_keeps = grind (arith, N.Utf8Laws.rest-append, none_left)

  whole_begins : Begins (a ++ b) ↔ Begins b
  whole_begins = (λ h. rw none_left at (N.Utf8Laws.joins_utf8.inward a b h), λ h. N.Utf8Laws.joins_utf8.outward a b (rw none_left h))

module _ {bytes to : List ℕ} (used made : ℕ) (x : Converts bytes to used made) where
  -- all of it was converted
  pub begun_whole : used ≡ length bytes → ConvertsBegun bytes to used made
  begun_whole = grind (arith, N.common_steps, N.take_all, N.append-nil, N.utf8_valid_len-IsUtf8, N.drop_of_length-le)

-- what is left after some of the bytes
pub rest_of : (bytes : List ℕ) (at : ℕ) → take (length bytes - at) (drop at bytes) ≡ drop at bytes
rest_of = N.take_rest

module _ {bytes to : List ℕ} (used made : ℕ) (x : Converts bytes to used made) {whole good : ℕ} where
  -- what follows begins no text
  pub begun_none : IsScan (drop used bytes) whole good → good < length (drop used bytes) → Begins bytes → ⊥
  begun_none scan less begun =
      let stops = scan.stops less in
      let tail = drop used bytes in
      let inside : Begins tail = (whole_begins (take used bytes) tail x.whole).0 (rw (N.sym (N.take-append-drop used bytes)) at begun) in
      stops.bad (N.Utf8Laws.joins_utf8.front (take (good + 1) tail) (drop (good + 1) tail) (rw N.take-append-drop inside))

  -- what follows was converted too
  pub begun_more : {new : List ℕ} {more : ℕ} → IsScan (drop used bytes) whole good
      → N.emit rest text (drop used bytes) ≡ N.doubled (take whole (drop used bytes)) → length (drop used bytes) ≤ good
      → more ≤ 2 * whole
      → take (made + more) new ≡ take made to ++ N.doubled (take whole (drop used bytes)) → ConvertsBegun bytes new (used + whole) (made + more)
  begun_more {more = more} scan emits all most written =
      let tail = drop used bytes in
      let split = N.take-append-drop used bytes in
      let size = N.length-drop used bytes in
      record {
        begun = rw split at ((whole_begins (take used bytes) tail x.whole).1 (scan.begins (omega arith)));
        within = omega arith;
        left = omega arith;
        short = omega arith;
        text = grind (arith, emits, whole_emits);
        keeps = grind (arith, N.drop-drop, whole_keeps);
      }
