-- Decimal digits, some at a time.
use Rattle.tds_values.proofs as N
use N.{ap, arith, decimal, inr, last_digits, pow-add, suc, zero, ℕ, ◌%◌, ◌*◌, ◌++◌, ◌+◌, ◌-◌, ◌/◌, ◌<◌, ◌^◌, ◌≡◌, ◌≤◌, ◌⊎◌}

-- what lies above the last digits doesn't change them
pub last_digits-above : (k q n : ℕ) → last_digits k (10 ^ k * q + n) ≡ last_digits k n
last_digits-above zero q n = N.refl
last_digits-above (suc k) q n =
    let a : (10 ^ suc k * q + n) / 10 ≡ 10 ^ k * q + n / 10 = rw (N.pow-succ' 10 k) (omega arith) in
    let b : (10 ^ suc k * q + n) % 10 ≡ n % 10 = rw (N.pow-succ' 10 k) (omega arith) in
    rw (a, b, last_digits-above k q (n / 10))

-- the last digits depend on a remainder alone
pub last_digits-mod : (k n : ℕ) → last_digits k (n % 10 ^ k) ≡ last_digits k n
last_digits-mod = grind (arith, last_digits-above, N.div-add-mod)

-- and on a remainder by a larger power
pub last_digits-below : (k m n : ℕ) → k ≤ m → last_digits k (n % 10 ^ m) ≡ last_digits k n
last_digits-below k m n h =
    let power : 10 ^ m ≡ 10 ^ k * 10 ^ (m - k) = rw (← pow-add 10 k (m - k)) (ap (λ j. 10 ^ j) (omega arith)) in
    let whole : 10 ^ k * (10 ^ (m - k) * (n / 10 ^ m)) + n % 10 ^ m ≡ n = omega (arith, ap (λ p. p * (n / 10 ^ m)) power, N.div-add-mod n (10 ^ m)) in
    grind (arith, last_digits-above)

-- the last a + b digits are the last a of what lies above the last b, and these
pub last_digits-add : (a b n : ℕ) → last_digits (a + b) n ≡ last_digits a (n / 10 ^ b) ++ last_digits b n
last_digits-add a zero n = grind (arith, N.append-nil)
last_digits-add a (suc b) n = rw (N.add-suc, last_digits-add a b (n / 10), N.div-div-eq-div-mul n 10 (10 ^ b), ← N.pow-succ' 10 b, N.append_assoc)

-- the same, of k digits the last b
pub last_digits_after : (k b n : ℕ) → b ≤ k → last_digits k n ≡ last_digits (k - b) (n / 10 ^ b) ++ last_digits b (n % 10 ^ b)
last_digits_after k b n h = grind (arith, last_digits-add, last_digits-mod)

large : (k n : ℕ) → 10 ^ suc k ≤ n → (10 ≤ n) × (10 ^ k ≤ n / 10)
large k n h = grind (arith, N.one-le-pow)

-- a number that is large enough has its last k digits after the text of the rest
pub decimal_split : (k n : ℕ) → 10 ^ k ≤ n → n < 10 ^ 64 → decimal n ≡ decimal (n / 10 ^ k) ++ last_digits k n
decimal_split zero n h small = rw (N.append-nil, N.div-one)
decimal_split (suc k) n h small =
    let l = large k n h in
    rw (N.decimal_step_wide n l.0 small, decimal_split k (n / 10) l.1 (omega arith), N.div-div-eq-div-mul n 10 (10 ^ k), ← N.pow-succ' 10 k, N.append_assoc)

-- the text of a number of k + 1 digits
pub decimal_last : (k n : ℕ) → (k ≡ 0) ⊎ (10 ^ k ≤ n) → n < 10 ^ suc k → n < 10 ^ 64 → decimal n ≡ last_digits (suc k) n
decimal_last zero n low fits small = grind (arith, N.decimal_digit)
decimal_last (suc k) n (N.inl none) fits small = absurd (omega arith)
decimal_last (suc k) n (inr low) fits small =
    let l = large k n low in
    rw (N.decimal_step_wide n l.0 small, decimal_last k (n / 10) (inr l.1) (omega arith) (omega arith))

-- eight digits after the text of the rest
pub decimal_eight : (n : ℕ) → 100000000 ≤ n → n < 10 ^ 64 → decimal n ≡ decimal (n / 100000000) ++ last_digits 8 (n % 100000000)
decimal_eight n h small = rw (last_digits-mod 8 n) (decimal_split 8 n h small)

-- a fraction depends on what the whole part leaves alone
pub fraction_rest : (scale n : ℕ) → N.fraction_text scale (n % 10 ^ scale) ≡ N.fraction_text scale n
fraction_rest scale n = rw (last_digits-mod scale n)

-- the whole part of units of a scale, which have as many digits of top + 1 as are needed
units_last : (top scale skipped n : ℕ) → scale + skipped ≤ top → n < 10 ^ (suc top - skipped) → (skipped + scale ≡ top) ⊎ (10 ^ (top - skipped) ≤ n)
    → n < 10 ^ 64 → decimal (n / 10 ^ scale) ≡ last_digits (suc top - scale - skipped) (n / 10 ^ scale)
units_last top scale skipped n few fits needed small =
    let k = top - scale - skipped in
    let width : suc top - scale - skipped ≡ suc k = omega arith in
    let all : suc top - skipped ≡ suc k + scale = omega arith in
    let some = N.one-le-pow scale 10 (omega arith) in
    let below : n / 10 ^ scale < 10 ^ suc k = N.div_below n (10 ^ scale) (10 ^ suc k) some (rw (← pow-add 10 (suc k) scale, ← all) fits) in
    let low : (k ≡ 0) ⊎ (10 ^ k ≤ n / 10 ^ scale) = N.⊎_elim (λ e. N.inl (omega arith))
    (λ h. inr (N.le-div (10 ^ k) n (10 ^ scale) some (let e : k + scale ≡ top - skipped = omega arith in rw (← pow-add 10 k scale, e) h))) needed in
    grind (arith, decimal_last)

-- with the leading zeros of top + 1 digits, but for the last before the point
pub decimal_units : (top scale zeros n : ℕ) → scale ≤ top → n < 10 ^ 64 → zeros ≤ top → n < 10 ^ (suc top - zeros) → (zeros ≡ top) ⊎ (10 ^ (top - zeros) ≤ n)
    → decimal (n / 10 ^ scale) ≡ last_digits (suc top - scale - N.min zeros (top - scale)) (n / 10 ^ scale)
decimal_units = grind (arith, units_last, N.pow-le-pow_right, N.cases_lt)

-- the whole part of units of a scale that have more than eight digits
pub decimal_above : (scale n : ℕ) → scale ≤ 7 → 100000000 ≤ n → n < 10 ^ 64
    → decimal (n / 10 ^ scale) ≡ decimal (n / 100000000) ++ last_digits (8 - scale) (n % 100000000 / 10 ^ scale)
decimal_above scale n few many fits =
    let some = N.one-le-pow scale 10 (omega arith) in
    let all : (8 - scale) + scale ≡ 8 = omega arith in
    let power : 10 ^ (8 - scale) * 10 ^ scale ≡ 100000000 = rw (← pow-add 10 (8 - scale) scale, all) N.refl in
    let whole : n / 10 ^ scale / 10 ^ (8 - scale) ≡ n / 100000000 = grind (arith, (N.div-div-eq-div-mul n (10 ^ scale) (10 ^ (8 - scale)))) in
    let parts : n % 100000000 + 10 ^ scale * (10 ^ (8 - scale) * (n / 100000000)) ≡ n =
    omega (arith, ap (λ p. p * (n / 100000000)) power) in
    let above : n / 10 ^ scale ≡ 10 ^ (8 - scale) * (n / 100000000) + n % 100000000 / 10 ^ scale =
    omega (arith, ap (λ m. m / 10 ^ scale) parts, N.add-mul-div_left (n % 100000000) (10 ^ (8 - scale) * (n / 100000000)) some) in
    let last = last_digits-above (8 - scale) (n / 100000000) (n % 100000000 / 10 ^ scale) in
    let longer : 64 ≤ 64 + scale = omega arith in
    let more : 10 ^ 64 ≤ 10 ^ (64 + scale) = N.pow-le-pow_right {n = 10} (omega arith) longer in
    let small : n / 10 ^ scale < 10 ^ 64 = N.div_below n (10 ^ scale) (10 ^ 64) some (rw (← pow-add 10 64 scale) (omega arith)) in
    grind (arith, decimal_split)
