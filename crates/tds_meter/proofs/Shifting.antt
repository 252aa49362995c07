-- A list whose first items are taken away in place.
use Rattle.tds_meter.proofs as N
use N.{◌≡◌, ◌∙◌, ◌-◌, ◌+◌, ◌≤◌, ℕ, take, drop, ap}

-- what stood after the first n of a front stands at the start
shifted : (n len : ℕ) (old new : N.List ℕ) → n ≤ len → len ≤ N.length old → new ≡ N.copy_within old n len 0 → take (len - n) new ≡ drop n (take len old)
shifted n len old new le within moved =
    let kept = len - n in
    let whole : n + kept ≡ len = omega N.arith in
    let start : take kept new ≡ take kept (drop n old) =
    ap (take kept) moved ∙ ap (λ m. take m (N.copy_within old n len 0)) (N.sym (N.zero-add kept))
    ∙ N.take-paste old 0 (drop n old) kept (omega N.arith) (omega (N.arith, N.length-drop n old)) in
    start ∙ N.sym (N.drop-take n kept old) ∙ ap (λ m. drop n (take m old)) whole

-- so it is in an area whose bytes are the front of a store
pub front-dropped : (s : N.Space) (n len room peak : ℕ) (old new : N.List ℕ) → n ≤ len → len ≤ N.length old → new ≡ N.copy_within old n len 0
    → record { bytes = take len old; room = room; peak = peak } ≡ s
    → record { bytes = take (len - n) new; room = room; peak = peak } ≡ N.holding s (drop n s.bytes)
front-dropped s n len room peak old new le within moved is = rw (shifted n len old new le within moved, ← is)
