-- Text in UTF-8 that is cut to a room, a character after the other.
use Rattle.tds_csv.proofs as N
use Rattle.tds_text.proofs as T
use N.{List, [], ◌∷◌, ℕ, ◌+◌, ◌-◌, ◌++◌, ◌<◌, ◌≤◌, ◌≡◌, length, take, drop, arith, ap, IsUtf8, encode_utf8}
use T.Utf8Laws.{valid_len_is, valid_len-past}
use Rattle.std.specs.Str.Lossy.{utf8_valid_len}

-- a beginning of a character is no text
part_is_no_text : (c n : ℕ) → 0 < n → n < length (encode_utf8 c) → IsUtf8 (take n (encode_utf8 c)) → ⊥
part_is_no_text c n some short ([], u) = omega (arith, ap length u.1, N.length-take-le n (encode_utf8 c) (omega arith))
part_is_no_text c n some short (d ∷ cs, u) =
    let whole : encode_utf8 c ++ [] ≡ encode_utf8 d ++ (N.encode_utf8_all cs ++ drop n (encode_utf8 c)) =
    grind (arith, N.append-nil, N.take-append-drop, N.append_assoc) in
    grind (arith, N.append-nil, N.take-append-drop, N.append_assoc, N.encode_same, N.length-append, N.length-drop)

part_has_none : (c k : ℕ) → k < length (encode_utf8 c) → utf8_valid_len (take k (encode_utf8 c)) ≡ 0
part_has_none c k short =
    let len = N.length-take-le k (encode_utf8 c) (omega arith) in
    valid_len_is _ 0 (omega arith) N.IsUtf8-nil
    (λ m some within u. part_is_no_text c m some (omega arith) (rw (N.take-take m k (encode_utf8 c) (omega arith)) at u))

-- the next character doesn't fit
cut_before : (room c : ℕ) (out more : List ℕ) → IsUtf8 out → length out ≤ room → room < length out + length (encode_utf8 c)
    → N.whole_within room (out ++ (encode_utf8 c ++ more)) ≡ out
cut_before room c out more u fits full =
    let split : room ≡ length out + (room - length out) = omega arith in
    grind (arith, N.take-append-add, N.take-append-le, valid_len-past, part_has_none, N.take_at)

-- The first characters of a text were added to an area, and these are left.
pub record Added (s to : N.Space) (text left : List ℕ) : Type 0 where
  pub out : List ℕ
  pub stands : to ≡ N.appended s out
  pub text_is : text ≡ out ++ left
  pub whole : IsUtf8 out
  pub fits : length s.bytes + length out ≤ s.room

module _ {s to : N.Space} {text left : List ℕ} (x : Added s to text left) where
  -- one more character was added
  pub added_more : (c : ℕ) {piece more : List ℕ} {after : N.Space} → left ≡ encode_utf8 c ++ more → piece ≡ encode_utf8 c → N.IsScalar c
      → after ≡ N.appended to piece → length to.bytes + length piece ≤ to.room → Added s after text more
  added_more = grind (arith, N.append_assoc, N.length-append, N.IsUtf8-append, N.IsUtf8-encode)

  -- the next one doesn't fit: the area stands as the longest beginning that fits leaves it
  pub stays_cut : (c : ℕ) (more : List ℕ) {piece : List ℕ} → left ≡ encode_utf8 c ++ more → piece ≡ encode_utf8 c
      → to.room < length to.bytes + length piece → to ≡ N.appended s (N.whole_within (s.room - length s.bytes) text)
  stays_cut = grind (arith, N.length-append, cut_before)

  -- all fits
  pub stays_whole : left ≡ [] → to ≡ N.appended s (N.whole_within (s.room - length s.bytes) text)
  stays_whole = grind (arith, N.append-nil, N.take_all, N.utf8_valid_len-IsUtf8)
