-- Data whose bytes each stand alone, put a run after the other.
use Rattle.tds_text.proofs as N
use N.{ArePlain, List, UPPER, arith, chunk, drop, get_or, is_plain, prefix_len, refl, suc, take, true, ℕ, [], ◌%◌, ◌++◌, ◌+◌, ◌-◌, ◌/◌, ◌<◌, ◌∙◌, ◌∷◌, ◌≡◌, ◌≤◌}
use N.Characters.{front_written, of_one}
use Rattle.std.specs.Char.{encode_utf8}
use Rattle.tds_text.specs.Windows1252 as windows_1252

module _ (text : List ℕ → List ℕ) (appends : (x y : List ℕ) → text (x ++ y) ≡ text x ++ text y) where
  pub runs : (t e : ℕ) (xs : List ℕ) → t ≤ e → text (take t xs) ++ text (take (e - t) (drop t xs)) ≡ text (take e xs)
  runs t e xs h = let end : t + (e - t) ≡ e = omega arith in grind (arith, N.take-add)

module _ {text : List ℕ → List ℕ} (law : N.IsBytewise text) where
  -- which were added to it
  pub text_taken : {run after : List ℕ} (bytes : List ℕ) (at n : ℕ) → after ≡ run ++ text (take n (drop at bytes)) → run ≡ text (take at bytes)
      → after ≡ text (take (at + n) bytes)
  text_taken = grind (arith, N.take-add, law.appends)

  -- bytes that stand for themselves were
  pub itself_taken : {run after : List ℕ} (bytes : List ℕ) (at n : ℕ) → after ≡ run ++ take n (drop at bytes)
      → text (take n (drop at bytes)) ≡ take n (drop at bytes) → run ≡ text (take at bytes) → after ≡ text (take (at + n) bytes)
  itself_taken {run} bytes at n added itself before = text_taken bytes at n (grind arith) before

  -- that of one byte was
  pub one_taken : {run after : List ℕ} (bytes : List ℕ) (at : ℕ) → at < N.length bytes → after ≡ run ++ text (get_or bytes at 0 ∷ [])
      → run ≡ text (take at bytes) → after ≡ text (take (at + 1) bytes)
  one_taken = grind (arith, N.take_more, law.appends)

  -- bytes that stand for themselves, up to the first that needn't
  module _ (q : ℕ → N.Bool) (itself : (b : ℕ) → q b ≡ true → text (b ∷ []) ≡ b ∷ []) where
    -- the first of them, so many
    some_itself : (k : ℕ) (xs : List ℕ) → k ≤ prefix_len q xs → text (take k xs) ≡ take k xs
    some_itself N.zero xs h = law.empty
    some_itself (suc k) [] h = grind arith
    some_itself (suc k) (b ∷ xs) h = grind (arith, law.appends (b ∷ []) (take k xs), some_itself k xs)

    -- those that were found among the next `w`
    lanes_itself : (w : ℕ) (bytes : List ℕ) (at n : ℕ) → n ≤ w → n ≡ prefix_len q (chunk at w bytes)
        → take n (chunk at w bytes) ≡ text (take n (drop at bytes))
    lanes_itself = grind (arith, some_itself, N.take-take)

-- ---- bytes of Windows-1252 that stand for themselves

-- the bytes of a number, from the lowest on, as many as the highest says
abbrev pub bytes_of : ℕ → List ℕ
bytes_of w = take (w / 16777216) ((w % 256) ∷ (w / 256 % 256) ∷ (w / 65536 % 256) ∷ [])

-- what the table has
table : (k : ℕ) → k < 128 → (bytes_of (get_or UPPER k 0) ≡ windows_1252.text ((128 + k) ∷ [])) × (get_or UPPER k 0 / 16777216 ≤ 3)
unfolding encode_utf8
table k h = (
  (N.bytes_eq-Decides _ _).0 (N.agree_below_at (λ k. N.bytes_eq (bytes_of (get_or UPPER k 0)) (windows_1252.text ((128 + k) ∷ []))) (λ _. true) 128 k refl h),
  grind (arith, N.nat_tests, (N.agree_below_at (λ k. N.nat_le (get_or UPPER k 0 / 16777216) 3) (λ _. true) 128 k refl h)),
)

-- the text of a byte beyond ASCII, from the table
pub upper_text : (b : ℕ) {w : ℕ} → 128 ≤ b → b < 256 → w ≡ get_or UPPER (b - 128) 0 → (bytes_of w ≡ windows_1252.text (b ∷ [])) × (w / 16777216 ≤ 3)
upper_text b low high is =
    let e : 128 + (b - 128) ≡ b = omega arith in
    rw is (rw e at (table (b - 128) (omega arith)))

-- the bytes of a number were written, and so many of them are that text
pub upper_put : (b at : ℕ) {w : ℕ} (old new : List ℕ) → 128 ≤ b → b < 256 → w ≡ get_or UPPER (b - 128) 0 → at ≤ N.length old
    → take (at + 4) new ≡ take at old ++ N.to_le_bytes N.w32 w → take (at + w / 16777216) new ≡ take at old ++ windows_1252.text (b ∷ [])
upper_put b at {w} old new low high is within written =
    let t = upper_text b low high is in
    let three = front_written old new _ at 3 4 (omega arith) within written in
    rw (← t.0) (front_written old new _ at (w / 16777216) 3 t.1 within three)

-- a byte that is plain is its own text
plain_itself : (b : ℕ) → is_plain b ≡ true → windows_1252.text (b ∷ []) ≡ b ∷ []
plain_itself = grind (arith, of_one)

-- so are bytes that are
pub plain_text : (bytes : List ℕ) → ArePlain bytes → windows_1252.text bytes ≡ bytes
plain_text [] plain = refl
plain_text (b ∷ bytes) plain = N.SingleLaws.windows_1252-append (b ∷ []) bytes ∙ N.ap₂ (λ x y. x ++ y) (plain_itself b plain.0) (plain_text bytes plain.1)

pub ruleset windows_1252_runs = (N.SingleLaws.windows_1252-append, N.take_more, N.take-add, plain_text)

-- those that were found among the next 32
pub wide_lanes : (bytes : List ℕ) (at n : ℕ) → n ≤ 32 → n ≡ prefix_len is_plain (chunk at 32 bytes)
    → take n (chunk at 32 bytes) ≡ windows_1252.text (take n (drop at bytes))
wide_lanes = lanes_itself N.SingleLaws.windows_1252_bytewise is_plain plain_itself 32

-- ---- bytes of ASCII without a quote

-- the first of them, so many
plain_front : (k : ℕ) (xs : List ℕ) → k ≤ prefix_len is_plain xs → ArePlain (take k xs)
plain_front N.zero xs h = tt
plain_front (suc k) [] h = tt
plain_front (suc k) (b ∷ xs) h = grind (arith, plain_front k xs)

-- some of those that were found among the next `w` of a source
pub plain_among : (source bytes : List ℕ) (at n w : ℕ) → n ≤ prefix_len is_plain (chunk at w source)
    → take n (drop at bytes) ≡ take n (chunk at w source) → ArePlain (take n (drop at bytes))
plain_among = grind (arith, plain_front)

-- with their quotes doubled they are as they were
pub plain_doubled : (bytes : List ℕ) → ArePlain bytes → N.doubled bytes ≡ bytes
plain_doubled [] plain = refl
plain_doubled (b ∷ bytes) plain = grind (arith, plain_doubled bytes plain.1, plain.0)

-- and they are text in UTF-8
pub one_utf8 : (b : ℕ) → b < 128 → N.IsUtf8 (b ∷ [])
one_utf8 b small = N.subst N.IsUtf8 (of_one b small) (N.IsUtf8-encode b (grind arith))

pub plain_utf8 : (bytes : List ℕ) → ArePlain bytes → N.IsUtf8 bytes
plain_utf8 [] plain = N.IsUtf8-nil
plain_utf8 (b ∷ bytes) plain = N.IsUtf8-append (b ∷ []) bytes (grind (arith, one_utf8)) (plain_utf8 bytes plain.1)

-- all of the next `w`, if no stop was found among them
pub plain_next : (w : ℕ) (bytes : List ℕ) (at : ℕ) → N.first_set 0 w ≡ prefix_len is_plain (chunk at w bytes) → ArePlain (chunk at w bytes)
plain_next w bytes at all = rw (N.take-take w w (drop at bytes) (omega arith)) at (plain_front w (chunk at w bytes) (omega (arith, all)))

-- bytes and others that are
pub plain_both : (xs ys : List ℕ) → ArePlain xs → ArePlain ys → ArePlain (xs ++ ys)
plain_both [] ys first second = second
plain_both (b ∷ xs) ys first second = (first.0, plain_both xs ys first.1 second)

-- ---- bytes without a quote

-- those that were found among the next `w`
pub unquoted_lanes : (w : ℕ) (bytes : List ℕ) (at n : ℕ) → n ≤ w → n ≡ prefix_len N.is_unquoted (chunk at w bytes)
    → take n (chunk at w bytes) ≡ N.doubled (take n (drop at bytes))
unquoted_lanes = lanes_itself N.JoiningLemmas.doubled_bytewise N.is_unquoted (grind arith)

pub ruleset plain_runs = (N.LaneMasks.run_most, N.LaneMasks.front_alike, plain_among, N.length-chunk)
