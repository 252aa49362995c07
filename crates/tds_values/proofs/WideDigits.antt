-- Forty digits of a number, in groups of eight.
use Rattle.tds_values.proofs as N
use N.{List, ap, arith, drop, get_or, last_digits, min, take, ℕ, ◌%◌, ◌++◌, ◌+◌, ◌-◌, ◌/◌, ◌<◌, ◌==◌, ◌^◌, ◌∙◌, ◌≡◌, ◌≤◌}
use N.ZeroLemmas.{HasLeadingZeros}
use Rattle.std.proofs.lemmas.List.{drop-take}
use Rattle.std.specs.Prelude.{◌&&◌, not}
use Rattle.tds_values.specs.Numbers.{groups_of}
use Rattle.tds_values.specs.ScalarText.{minus_if}

-- m bytes put from digit s on hold the digits from there up to the fortieth
pub digits_from : (xs new ds : List ℕ) (at s m : ℕ) → N.length xs ≡ at → s ≤ 40 → 40 - s ≤ m → take (at + m) new ≡ xs ++ take m (drop s ds)
    → take (at + (40 - s)) new ≡ xs ++ drop s (take 40 ds)
digits_from xs new ds at s m long few more e =
    let forty : s + (40 - s) ≡ 40 = omega arith in
    let digits = rw forty at (drop-take s (40 - s) ds) in
    let put = N.take-append-add xs (take m (drop s ds)) (40 - s) in
    grind (arith, N.take-take)

-- the digits above the last k, of which a group has eight, and that group
group_after : (a k n g : ℕ) {front : List ℕ} → g ≡ n / 10 ^ k % 10 ^ 8 → front ≡ last_digits a (n / 10 ^ (k + 8))
    → front ++ last_digits 8 g ≡ last_digits (a + 8) (n / 10 ^ k)
group_after = grind (arith, N.DigitLemmas.last_digits-add, N.div-div-eq-div-mul, N.pow-add, N.DigitLemmas.last_digits-mod)

-- five groups of eight digits
pub forty : (n : ℕ) {gs front one two three four : List ℕ} → n < 2 ^ 128 → gs ≡ groups_of n → front ≡ last_digits 8 (get_or gs 0 0)
    → one ≡ front ++ last_digits 8 (get_or gs 1 0) → two ≡ one ++ last_digits 8 (get_or gs 2 0)
    → three ≡ two ++ last_digits 8 (get_or gs 3 0) → four ≡ three ++ last_digits 8 (get_or gs 4 0) → four ≡ last_digits 40 n
forty n fits is a b c d e =
    let two = group_after 8 24 n _ (ap (λ gs. get_or gs 1 0) is) (a ∙ ap (λ gs. last_digits 8 (get_or gs 0 0)) is) in
    let three = group_after 16 16 n _ (ap (λ gs. get_or gs 2 0) is) (b ∙ two) in
    let four = group_after 24 8 n _ (ap (λ gs. get_or gs 3 0) is) (c ∙ three) in
    e ∙ group_after 32 0 n _ (ap (λ gs. get_or gs 4 0) is ∙ omega arith) (d ∙ four) ∙ ap (λ m. last_digits 40 m) (omega arith)

-- leading zeros of the digits above the last p, which are at most eight
pub zeros_after : (p n z : ℕ) → p ≤ 32 → 10 ^ p ≤ n → HasLeadingZeros 7 (n / 10 ^ p) z → HasLeadingZeros 39 n (32 - p + z)
zeros_after p n z few more leading_zeros =
    let some = N.one-le-pow p 10 (omega arith) in
    let above : 8 - z + p ≡ 40 - (32 - p + z) = omega (arith, leading_zeros.0) in
    let below : 7 - z + p ≡ 39 - (32 - p + z) = omega (arith, leading_zeros.0) in
    let high = rw above at (N.pow-add 10 (8 - z) p) in
    let low = rw below at (N.pow-add 10 (7 - z) p) in
    grind (arith, (N.le-div (10 ^ (8 - z)) n (10 ^ p) some), (N.le-div 1 n (10 ^ p) some), (N.div_below n (10 ^ p) (10 ^ (7 - z)) some))

-- a sign and the digits before the point, in front of those after it
pub whole_joined : (negative : N.Bool) (n scale zeros at : ℕ) (new t : List ℕ) {xs ds : List ℕ} → ds ≡ last_digits 40 n
    → xs ≡ t ++ minus_if (negative && not (n == 0)) → N.length xs ≡ at → n < 2 ^ 128 → scale ≤ 38 → HasLeadingZeros 39 n zeros
    → take (at + (40 - min zeros (39 - scale))) new ≡ xs ++ drop (min zeros (39 - scale)) ds
    → take (at + (40 - min zeros (39 - scale)) - scale) new ≡ t ++ minus_if (negative && not (n == 0)) ++ N.decimal (n / 10 ^ scale)
whole_joined negative n scale zeros at new t {xs} ed ex long fits few leading_zeros is =
    let first = min zeros (39 - scale) in
    let k = 40 - scale - first in
    let rest : 40 - (40 - first) ≡ first = omega arith in
    let digits = rw rest at (N.WordLemmas.end_digits 40 (40 - first) n (omega arith)) in
    let end : at + (40 - first) - scale ≡ at + k = omega arith in
    let whole = N.DigitLemmas.decimal_units 39 scale zeros n (omega arith) (omega arith) leading_zeros.0 leading_zeros.1.0 leading_zeros.1.1 in
    grind (arith, N.WordLemmas.front_put)
