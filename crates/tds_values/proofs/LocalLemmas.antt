-- Local times by their whole seconds.
use Rattle.tds_values.proofs as N
use N.{arith, ℕ, ℤ, ◌%◌, ◌*◌, ◌++◌, ◌+◌, ◌/◌, ◌<◌, ◌^◌, ◌≡◌}

more : (p x t f : ℕ) → f < p → t < x → t * p + f < x * p
more = grind (arith, N.mul-le)

-- a local time lies in the calendar where its seconds do
pub local_by_seconds : (scale units day : ℕ) (offset : ℤ) → N.is_local scale units day offset ≡ N.is_some (N.local_seconds (units / 10 ^ scale) day offset)
local_by_seconds scale units day offset =
    let p = 10 ^ scale in
    let small : units % p < p = N.mod_below units p (N.one-le-pow scale 10 (omega arith)) in
    let o = N.unsigned_abs offset * 60 in
    let t = day * 86400 + units / p in
    grind (
      arith,
      (more p o t (units % p) small),
      (N.mul-le o p t p),
      (more p 315537897600 (t + o) (units % p) small),
      (N.mul-le 315537897600 p (t + o) p),
    )

scaled_sum : (p s o t : ℕ) → s + o ≡ t → s * p + o * p ≡ t * p
scaled_sum p s o t e = omega (arith, N.ap (λ k. k * p) e)

-- and its units are those seconds and the fraction
pub units_of_seconds : (scale units day l : ℕ) (offset : ℤ) → N.local_seconds (units / 10 ^ scale) day offset ≡ N.Some l
    → N.local_units scale units day offset ≡ l * 10 ^ scale + units % 10 ^ scale
units_of_seconds scale units day l offset h =
    let p = 10 ^ scale in
    let o = N.unsigned_abs offset * 60 in
    let t = day * 86400 + units / p in
    grind (arith, (scaled_sum p t o l), (scaled_sum p l o t))

fraction-above : (scale x f : ℕ) → N.fraction_text scale (x * 10 ^ scale + f) ≡ N.fraction_text scale f
fraction-above scale x f = let turned : x * 10 ^ scale ≡ 10 ^ scale * x = omega arith in rw (turned, N.DigitLemmas.last_digits-above)

day_parts : (p l f : ℕ) → f < p → ((l * p + f) / (86400 * p) ≡ l / 86400) × ((l * p + f) % (86400 * p) ≡ l % 86400 * p + f)
day_parts p l f small =
    let whole : l * p + f ≡ l / 86400 * (86400 * p) + (l % 86400 * p + f) = omega (arith, N.ap (λ k. k * p) (N.div-add-mod l 86400)) in
    grind (arith, N.div-mul-add, N.mod-mul-add)

-- so its text is that of the seconds and the fraction
pub text_of_seconds : (scale l units : ℕ)
    → N.local_text scale (l * 10 ^ scale + units % 10 ^ scale) ≡ N.date_and_time (l / 86400) (N.seconds_text (l % 86400) ++ N.fraction_text scale units)
text_of_seconds scale l units =
    let small = N.mod_below units (10 ^ scale) (N.one-le-pow scale 10 (omega arith)) in
    let p = day_parts (10 ^ scale) l (units % 10 ^ scale) small in
    grind (arith, N.div-mul-add, fraction-above, N.DigitLemmas.last_digits-mod)
