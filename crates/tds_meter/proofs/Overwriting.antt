-- A list over whose end others are written, seen through its front.
use Rattle.tds_meter.proofs as N
use N.{◌≡◌, ◌∙◌, ◌+◌, ◌≤◌, ◌++◌, ℕ, List, length, take, drop, refl, ap, arith}
use Rattle.std.proofs.Common.{zero, suc, [], ◌∷◌, max, length-append}

front_of_mid : (m : ℕ) (w ys : List ℕ) → take m (w ++ drop (length w) ys) ≡ take m (w ++ drop (length w) (take m ys))
front_of_mid m [] ys = N.sym (N.take-take m m ys (omega arith))
front_of_mid zero (x ∷ w) ys = refl
front_of_mid (suc m) (x ∷ w) [] = refl
front_of_mid (suc m) (x ∷ w) (y ∷ ys) = rw (front_of_mid m w ys)

-- what is written over the end of a front is what is written over the whole, as far as the front goes
front_of_written : (len from : ℕ) (w xs : List ℕ)
    → take len (take from xs ++ (w ++ drop (length w) (drop from xs))) ≡ take len
    (take from (take len xs) ++ (w ++ drop (length w) (drop from (take len xs))))
front_of_written len zero w xs = front_of_mid len w xs
front_of_written zero (suc from) w xs = refl
front_of_written (suc len) (suc from) w [] = refl
front_of_written (suc len) (suc from) w (x ∷ xs) = rw (front_of_written len from w xs)

written_length : (from : ℕ) (w xs : List ℕ) → from ≤ length xs → length xs ≤ length (take from xs ++ (w ++ drop (length w) (drop from xs)))
written_length = grind (arith, length-append, N.length-drop, N.length-take-le)

-- the front of a list that is refilled so
pub front-refill : (len from : ℕ) (w xs : List ℕ) → from ≤ len → len ≤ length xs
    → take len (N.refill (length xs) xs (take from xs ++ (w ++ drop (length w) (drop from xs)))) ≡ N.overwritten from w (take len xs)
front-refill len from w xs h k =
    let written = take from xs ++ (w ++ drop (length w) (drop from xs)) in
    let long = written_length from w xs (omega arith) in
    rw (
      N.take-take len (length xs) (written ++ drop (length written) xs) k,
      N.take-append-le len written (drop (length written) xs) (omega arith),
      N.length-take-le len xs k,
    ) (front_of_written len from w xs)

-- all from a place on is written over
pub overwritten_all : (from : ℕ) (w xs : List ℕ) → from + length w ≡ length xs → N.overwritten from w xs ≡ take from xs ++ w
overwritten_all from w xs e =
    let rest : drop (length w) (drop from xs) ≡ [] = N.drop_of_length-le (drop from xs) (omega (arith, N.length-drop from xs)) in
    rw (rest, N.append-nil) (N.take_all (length xs) (take from xs ++ w) (omega (
      arith,
      length-append (take from xs) w,
      N.length-take-le from xs (omega arith),
    )))

-- an area whose front grows by n items of a list that begins as it
pub grows : (s : N.Space) (len n peak' : ℕ) (xs ys : List ℕ) → take len xs ≡ s.bytes → take (length xs) ys ≡ xs → len ≤ length xs
    → len + n ≤ length ys → peak' ≡ max s.peak (len + n)
    → N.Grows s (record { bytes = take (len + n) ys; room = s.room; peak = peak' }) n
grows s len n peak' xs ys front same within fits top =
    let begins : take len ys ≡ take len xs = N.sym (N.take-take len (length xs) ys within) ∙ ap (take len) same in
    let more = take n (drop len ys) in
    let long : length more ≡ n = N.length-take-le n (drop len ys) (omega (arith, N.length-drop len ys)) in
    let stood : length s.bytes ≡ len = ap length (N.sym front) ∙ N.length-take-le len xs within in
    let bytes : take (len + n) ys ≡ s.bytes ++ more = rw (N.take-add len n ys, begins, front) in
    let size : length (s.bytes ++ more) ≡ len + n = omega (arith, length-append s.bytes more, long, stood) in
    (more, long, rw (bytes, size, top))

-- an area that grew, and all over which others are written
pub grown : (s : N.Space) (lent w : List ℕ) → length w ≡ length lent → N.with_tail (N.appended s lent) (length s.bytes) w ≡ N.appended s w
grown s lent w e =
    let len : length (s.bytes ++ lent) ≡ length (s.bytes ++ w) = omega (arith, length-append {A = ℕ}) in
    rw (overwritten_all (length s.bytes) w (s.bytes ++ lent) (omega (arith, length-append {A = ℕ})), N.take-append_seam s.bytes lent, len)
