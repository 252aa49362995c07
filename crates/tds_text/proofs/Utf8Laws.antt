-- The laws of UTF-8 in pieces.
use Rattle.tds_text.proofs as N
use N.{Bool, IsUtf8, List, None, Some, ap, arith, cond, encode_utf8, false, get_or, inl, inr, length, refl, second_byte_max, second_byte_min, suc, take, true}
use N.{ℕ, [], ◌*◌, ◌++◌, ◌+◌, ◌-◌, ◌<◌, ◌∙◌, ◌∷◌, ◌≡◌, ◌≤◌, ◌⊎◌}
use N.JoiningLemmas.{HasFronts, emit-front, emits, ends, settled_front}
use Rattle.std.specs.Str.Lossy.{utf8_error_len, utf8_valid_len}
use Rattle.tds_text.specs.Utf8.{Begins, IsFit, rest, text}

-- what is found going down is UTF-8, and nothing longer is
front_up_to : (bs : List ℕ) (n : ℕ) → IsUtf8 (take (N.valid_len_up_to bs n) bs)
front_up_to bs N.zero = N.IsUtf8-nil
front_up_to bs (suc n) = N.cond_both _ (suc n) _ (λ k. IsUtf8 (take k bs)) (N.IsUtf8-from_is_utf8 _) (λ _. front_up_to bs n)

longest_up_to : (bs : List ℕ) (n m : ℕ) → N.valid_len_up_to bs n < m → m ≤ n → IsUtf8 (take m bs) → ⊥
longest_up_to bs N.zero m below within u = omega arith
longest_up_to bs (suc n) m below within u =
    let passed = N.is_utf8-from_IsUtf8 (take m bs) u in
    N.cond_both _ (suc n) _ (λ k. k < m → ⊥) (λ _. omega arith) (λ (refused : N.is_utf8 (take (suc n) bs) ≡ false) less. elim (N.cases_lt m (suc n)) [
      | inl before ↦ longest_up_to bs n m less (omega arith) u
      | inr whole ↦ let same : m ≡ suc n = omega arith in cc
    ]) below

-- the whole characters at the front
unfoldable pub front : List ℕ → List ℕ
front bs = take (utf8_valid_len bs) bs

pub front_is : (bs : List ℕ) → IsUtf8 (front bs)
unfolding front utf8_valid_len
front_is bs = front_up_to bs (length bs)

pub longest_is : (bs : List ℕ) (m : ℕ) → utf8_valid_len bs < m → m ≤ length bs → IsUtf8 (take m bs) → ⊥
unfolding utf8_valid_len
longest_is bs = longest_up_to bs (length bs)

length-front : (bs : List ℕ) → length (front bs) ≡ utf8_valid_len bs
unfolding front
length-front bs = N.length-take-le _ bs (N.utf8_valid_len_le bs)

front-rest : (bs : List ℕ) → bs ≡ front bs ++ rest bs
unfolding front
front-rest bs = N.sym (N.take-append-drop _ bs)

-- what follows a text in a text is a text
after_text : (w z : List ℕ) → IsUtf8 w → IsUtf8 (w ++ z) → IsUtf8 z
after_text w z u whole =
    rw (N.drop_at w z (length w) refl) at (N.IsUtf8-drop (w ++ z) (length w) whole (grind (arith, N.IsCharBoundary-from_take, N.length-append, N.take_at)))

-- a text at the front than which no longer one stands there
pub valid_len_is : (bs : List ℕ) (n : ℕ) → n ≤ length bs → IsUtf8 (take n bs) → ((m : ℕ) → n < m → m ≤ length bs → IsUtf8 (take m bs) → ⊥)
    → utf8_valid_len bs ≡ n
unfolding front
valid_len_is bs n within u longest = grind (arith, longest_is bs n, longest (utf8_valid_len bs), N.utf8_valid_len_le, front_is bs)

-- the longest text at the front, after a text
pub valid_len-past : (w y : List ℕ) → IsUtf8 w → utf8_valid_len (w ++ y) ≡ length w + utf8_valid_len y
unfolding front
valid_len-past w y u =
    let k = utf8_valid_len y in
    let sum = N.length-append w y in
    valid_len_is (w ++ y) (length w + k) (omega (arith, N.utf8_valid_len_le y)) (rw (N.take-append-add w y k) (N.IsUtf8-append w (take k y) u (front_is y)))
    (λ m more within whole. let n = m - length w in
    let split : m ≡ length w + n = omega arith in
    longest_is y n (omega arith) (omega arith) (after_text w (take n y) u (grind (arith, N.take-append-add))))

regrouped : (a b : List ℕ) → a ++ b ≡ front a ++ (rest a ++ b)
regrouped a b = cc (front-rest a, N.append_assoc (front a) (rest a) b)

-- the front of two pieces, and their rest
valid_len-append : (a b : List ℕ) → utf8_valid_len (a ++ b) ≡ length (front a) + utf8_valid_len (rest a ++ b)
valid_len-append = grind (arith, regrouped, valid_len-past, front_is)

front-append : (a b : List ℕ) → front (a ++ b) ≡ front a ++ front (rest a ++ b)
unfolding front
front-append = grind (arith, valid_len-append, regrouped, N.take-append-add)

pub rest-append : (a b : List ℕ) → rest (a ++ b) ≡ rest (rest a ++ b)
rest-append = grind (arith, valid_len-append, regrouped, N.drop-append-add)

pub fronts : HasFronts rest text front
fronts = grind (arith, N.common_steps, front-rest, front_is, front-append, N.JoiningLemmas.doubled-append, front)

-- the first bytes, the whole characters among them
take-front : (bytes : List ℕ) (n : ℕ) → take (utf8_valid_len bytes + n) bytes ≡ front bytes ++ take n (rest bytes)
take-front bytes n = rw (length-front bytes, ← front-rest bytes) at (N.take-append-add (front bytes) (rest bytes) n)

-- no front of the list is a text
unfoldable pub NoText : List ℕ → Type 0
NoText r = (n : ℕ) → 0 < n → n ≤ length r → IsUtf8 (take n r) → ⊥

-- the rest of bytes has no text at its front
pub no_text : (bytes : List ℕ) → NoText (rest bytes)
unfolding NoText
no_text bytes n some within u = longest_is bytes (utf8_valid_len bytes + n) (omega arith) (grind (arith, N.length-drop))
    (rw take-front (N.IsUtf8-append (front bytes) (take n (rest bytes)) (front_is bytes) u))

-- the list is empty, or a beginning of a character, as what follows shows
abbrev IsBegun : List ℕ → List ℕ → Type 0
IsBegun r more = (r ≡ []) ⊎ ((c : ℕ) × (tail : List ℕ) × (N.scalar c ≡ true) × (encode_utf8 c ++ tail ≡ r ++ more) × (length r < length (encode_utf8 c)))

-- the rest of what begins a text is so
begun_rest : (a : List ℕ) → (b : Begins a) → IsBegun (rest a) b.0
unfolding NoText
begun_rest a b =
    let whole = after_text (front a) (rest a ++ b.0) (front_is a) (rw (← regrouped a b.0) b.1) in
    go whole.0 whole.1.0 whole.1.1
  where
    go : (cs : List ℕ) → N.all_scalars cs ≡ true → N.encode_utf8_all cs ≡ rest a ++ b.0 → IsBegun (rest a) b.0
    go [] valid e = inl (N.nil_from_length (rest a) (omega (arith, ap length e, N.length-append (rest a) b.0)))
    go (c ∷ cs) valid e = elim (N.cases_lt (length (rest a)) (length (encode_utf8 c))) [
      | inl less ↦ grind (arith, N.encode_utf8_all, N.and_parts, valid)
      | inr more ↦
          let found : take (length (encode_utf8 c)) (rest a) ≡ encode_utf8 c =
          rw (← N.take-append-le _ (rest a) b.0 more, ← e) (grind (arith, N.take_at, N.encode_utf8_all)) in
          absurd (no_text a (length (encode_utf8 c)) (omega (arith, N.length-encode c, N.len_utf8_bounds c)) more
          (grind (arith, N.IsUtf8-encode, N.and_parts, valid)))
    ]

short : (a : List ℕ) → Begins a → length (rest a) ≤ 3
short a begins = elim (begun_rest a begins) [
  | inl none ↦ grind arith
  | inr part ↦ grind (arith, N.length-encode, part, N.len_utf8_bounds)
]

-- what follows, seen from the front
seam : (a b more : List ℕ) → (a ++ b) ++ more ≡ front a ++ ((rest a ++ b) ++ more)
seam = grind (arith, regrouped, N.append_assoc)

-- text in UTF-8 may come in pieces
pub joins_utf8 : N.JoinsPieces IsFit Begins rest text
joins_utf8 = record {
  emits = λ a b _. emits fronts a b;
  keeps = λ a b _. rest-append a b;
  short = short;
  ends = λ bytes _. ends fronts bytes;
  fit_rest = λ bytes u. after_text (front bytes) (rest bytes) (front_is bytes) (rw (← front-rest bytes) u);
  fit_whole = λ bytes _ u. rw (front-rest bytes) (N.IsUtf8-append (front bytes) (rest bytes) (front_is bytes) u);
  front = grind (arith, N.append_assoc);
  inward = λ a b h. (h.0, after_text (front a) ((rest a ++ b) ++ h.0) (front_is a) (rw (← seam a b h.0) h.1));
  outward = λ a b h. (h.0, rw (seam a b h.0) (N.IsUtf8-append (front a) ((rest a ++ b) ++ h.0) (front_is a) h.1));
}

-- ---- whether bytes begin a text: std's test of what follows the last whole character

-- the first two bytes of a character of four
four : (c a b d w : ℕ) → N.Scalar c → 240 ≤ a → N.Follows b → N.Follows d → N.Follows w → c + 63447168 ≡ a * 262144 + b * 4096 + d * 64 + w → 4 ≤ N.len_utf8 c
    → (a ≤ 244) × (second_byte_min a ≤ b) × (b ≤ second_byte_max a)
four = grind arith

-- the front of a character
front_none : (c : ℕ) (r more tail : List ℕ) → N.Scalar c → N.Shape c → r ++ more ≡ encode_utf8 c ++ tail → length r < length (encode_utf8 c)
    → utf8_error_len r ≡ None
unfolding utf8_error_len
front_none c [] more tail k s e short = refl
front_none c (x ∷ []) more tail k s e short = grind (arith, N.length-encode, four)
front_none c (x ∷ y ∷ []) more tail k s e short = grind (arith, N.length-encode, four, N.⊎_elim, N.nat_tests)
front_none c (x ∷ y ∷ z ∷ []) more tail k s e short = grind (arith, N.length-encode, four, N.nat_tests)
front_none c (x ∷ y ∷ z ∷ v ∷ r) more tail k s e short = grind (arith, N.length-encode)

-- where some text begins so, std finds no fault in the rest
pub begins_none : (bytes : List ℕ) → Begins bytes → utf8_error_len (rest bytes) ≡ None
begins_none bytes begins = elim (begun_rest bytes begins) [
  | inl none ↦ rw none (unfold utf8_error_len in refl)
  | inr part ↦ let k = N.scalar_cases part.0 part.2 in front_none part.0 (rest bytes) begins.0 part.1 k (N.shape part.0 k) (N.sym part.3) part.4
]

pub two_bytes : (a b : ℕ) → 194 ≤ a → a < 224 → second_byte_min a ≤ b → b ≤ second_byte_max a → IsUtf8 (a ∷ b ∷ [])
two_bytes a b l u lo hi = N.of_two (a ∷ b ∷ []) 0 (omega arith) (l, u) (grind arith)

pub three_bytes : (a b d : ℕ) → 224 ≤ a → a < 240 → second_byte_min a ≤ b → b ≤ second_byte_max a → 128 ≤ d → d < 192 → IsUtf8 (a ∷ b ∷ d ∷ [])
three_bytes a b d l u lo hi dl dh = N.of_three (a ∷ b ∷ d ∷ []) 0 (omega arith) (l, u) (grind arith) (dl, dh) (grind arith) (grind arith)

four_bytes : (a b d w : ℕ) → 240 ≤ a → a ≤ 244 → second_byte_min a ≤ b → b ≤ second_byte_max a → 128 ≤ d → d < 192 → 128 ≤ w → w < 192
    → IsUtf8 (a ∷ b ∷ d ∷ w ∷ [])
four_bytes a b d w l u lo hi dl dh wl wh = N.of_four (a ∷ b ∷ d ∷ w ∷ []) 0 (omega arith) l (grind arith) (dl, dh) (wl, wh) (grind arith)

-- a first byte of three or four, and the next two
three_complete : (a b d : ℕ) → 224 ≤ a → a ≤ 244 → second_byte_min a ≤ b → b ≤ second_byte_max a → 128 ≤ d → d < 192 → Begins (a ∷ b ∷ d ∷ [])
three_complete a b d l h lo hi dl dh = elim (N.cases_lt a 240) [
  | inl three ↦ grind (arith, three_bytes)
  | inr four ↦ (128 ∷ [], four_bytes a b d 128 four h lo hi dl dh (omega arith) (omega arith))
]

one_completes : (a : ℕ) → 194 ≤ a → a ≤ 244 → Begins (a ∷ [])
one_completes a l h =
    let b = second_byte_min a in
    let most : b ≤ second_byte_max a = grind arith in
    elim (N.cases_lt a 224) [
      | inl two ↦ (b ∷ [], two_bytes a b l two (omega arith) most)
      | inr more ↦ let x = three_complete a b 128 more h (omega arith) most (omega arith) (omega arith) in (b ∷ 128 ∷ x.0, x.1)
    ]

-- a first byte of two with the next byte is a text
more_than_two : (a b : ℕ) (r : List ℕ) → 194 ≤ a → second_byte_min a ≤ b → b ≤ second_byte_max a → NoText (a ∷ b ∷ r) → 224 ≤ a
unfolding NoText
more_than_two a b r l lo hi none = grind (arith, two_bytes, none 2)

two_complete : (a b : ℕ) → 194 ≤ a → a ≤ 244 → second_byte_min a ≤ b → b ≤ second_byte_max a → NoText (a ∷ b ∷ []) → Begins (a ∷ b ∷ [])
two_complete a b l h lo hi none = let x = three_complete a b 128 (more_than_two a b [] l lo hi none) h lo hi (omega arith) (omega arith) in
    (128 ∷ x.0, x.1)

-- what std finds no fault in can be completed
completes : (r : List ℕ) → NoText r → utf8_error_len r ≡ None → Begins r
unfolding utf8_error_len
completes [] none e = ([], N.IsUtf8-nil)
completes (a ∷ []) none e = grind (arith, one_completes)
completes (a ∷ b ∷ []) none e = grind (arith, two_complete, N.nat_tests)
completes (a ∷ b ∷ d ∷ []) none e = grind (arith, three_complete, more_than_two, N.nat_tests)
completes (a ∷ b ∷ d ∷ w ∷ r) none e = grind (arith, N.nat_tests)

-- where std finds no fault in the rest, some text begins so
pub none_begins : (bytes : List ℕ) → utf8_error_len (rest bytes) ≡ None → Begins bytes
none_begins bytes e =
    let more = completes (rest bytes) (no_text bytes) e in
    (more.0, rw regrouped (N.IsUtf8-append (front bytes) (rest bytes ++ more.0) (front_is bytes) more.1))

-- ---- the first byte with which bytes stop beginning a text, from what std says of them

abbrev is_first : ℕ → Bool
is_first x = N.is_in_range 0xC2 0xF4 x

abbrev is_second : ℕ → ℕ → Bool
is_second x y = N.is_in_range (second_byte_min x) (second_byte_max x) y

abbrev is_next : ℕ → Bool
is_next z = N.is_in_range 0x80 0xBF z

-- so many bytes of these could begin a character, and with the next one they can't
record Good (r : List ℕ) (j : ℕ) : Type 0 where
  within : j < length r
  begun : utf8_error_len (take j r) ≡ None
  bad : ¬ (utf8_error_len (take (j + 1) r) ≡ None)

-- the number of good bytes of four or more, by the tests of three
by_tests : (f s n : Bool) (k : ℕ) (P : ℕ → Type 0) → cond f (cond s (cond n (Some 3) (Some 2)) (Some 1)) (Some 1) ≡ Some k
    → (f ≡ false → P 0) → (f ≡ true → s ≡ false → P 1) → (f ≡ true → s ≡ true → n ≡ false → P 2) → (f ≡ true → s ≡ true → n ≡ true → P 3) → P (cond f k 0)
by_tests = grind arith

-- the number of good bytes, from the fault
good_of : (r : List ℕ) (k : ℕ) → utf8_error_len r ≡ Some k → Good r (cond (is_first (get_or r 0 0)) k 0)
unfolding utf8_error_len
good_of [] k e = cc
good_of (x ∷ []) k e = grind arith
good_of (x ∷ y ∷ []) k e = grind (arith, N.common_steps)
good_of (x ∷ y ∷ z ∷ []) k e = grind (arith, N.common_steps)
good_of (x ∷ y ∷ z ∷ w ∷ t) k e =
    by_tests (is_first x) (is_second x y) (is_next z) k (Good (x ∷ y ∷ z ∷ w ∷ t)) (grind arith) (grind arith) (grind arith) (grind arith) (grind arith)

-- a part of what has no text at its front has none either
rest_part : (r : List ℕ) (j : ℕ) → NoText r → j ≤ length r → rest (take j r) ≡ take j r
unfolding NoText
rest_part r j without le =
    let len = N.length-take-le j r le in
    rw (valid_len_is (take j r) 0 (omega arith) N.IsUtf8-nil (λ m some within u. without m some (omega arith) (grind (arith, N.take-take)))) refl

-- a text, and a part of what follows it
rest_after : (bytes : List ℕ) (j : ℕ) → j ≤ length (rest bytes) → rest (take (utf8_valid_len bytes + j) bytes) ≡ take j (rest bytes)
rest_after = grind (arith, take-front, rest-append, N.drop_of_length-le, N.utf8_valid_len-IsUtf8, front_is, rest_part, no_text)

-- where the bytes stop beginning a text, by the fault in their rest
stops : (bytes : List ℕ) (k : ℕ) → utf8_error_len (rest bytes) ≡ Some k
    → N.StopsAt bytes (utf8_valid_len bytes) (utf8_valid_len bytes + cond (is_first (get_or (rest bytes) 0 0)) k 0)
stops bytes k e =
    let v = utf8_valid_len bytes in
    let j = cond (is_first (get_or (rest bytes) 0 0)) k 0 in
    let good = good_of (rest bytes) k e in
    let part = rest_after bytes j (omega arith) in
    let next : rest (take ((v + j) + 1) bytes) ≡ take (j + 1) (rest bytes) = ap (λ n. rest (take n bytes)) {y = v + (j + 1)} (omega arith)
    ∙ rest_after bytes (j + 1) (omega arith) in
    grind (
      arith,
      take-front,
      front,
      front-rest,
      N.length-drop,
      N.utf8_valid_len_le,
      none_begins,
      begins_none,
      settled_front,
      emit-front fronts bytes,
      emit-front fronts (take (v + j) bytes),
    )

pub stops_at : (bytes : List ℕ) (whole k good : ℕ) → whole ≡ utf8_valid_len bytes → utf8_error_len (N.drop whole bytes) ≡ Some k
    → good ≡ cond (is_first (get_or bytes whole 0)) k 0 → N.StopsAt bytes whole (whole + good)
stops_at bytes whole k good is e found =
    rw (found, ← (N.get_or-drop whole bytes 0 0 ∙ ap (λ n. get_or bytes n 0) {x = whole + 0} {y = whole} (omega arith)), is) (stops bytes k (rw is at e))

pub ruleset scan_laws = (none_begins, N.length-drop, N.utf8_valid_len-IsUtf8)
