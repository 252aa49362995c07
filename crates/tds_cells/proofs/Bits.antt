-- The bits of a bitmap that lie in one byte.
use Rattle.tds_cells.proofs as N
use N.{arith, bit, w32, w8, ℕ, ◌%◌, ◌*◌, ◌+◌, ◌-◌, ◌/◌, ◌<◌, ◌==◌, ◌^◌, ◌≡◌, ◌≤◌}
use Rattle.std.specs.Int.{bit_at, trailing_ones, trailing_zeros}
use Rattle.std.proofs.Math.Nat.{div-div-eq-div-mul}
use Rattle.std.proofs.lemmas.Nat.{pow-add}
use Rattle.std.proofs.lemmas.Nat.Bits.{bit_at-trailing_ones, bit_at-trailing_zeros, bit_at_above}

module _ (bitmap : N.List ℕ) (at : ℕ) where
  -- the bits of a byte from this one on
  abbrev bits : ℕ
  bits = N.slice_index bitmap (at / 8) / 2 ^ (at % 8)

  bit_in : (k : ℕ) → at ≤ k → k < at / 8 * 8 + 8 → bit bitmap k ≡ (bit_at bits (k - at) == 1)
  bit_in k least most =
      let byte : k / 8 ≡ at / 8 = omega arith in
      let place : k % 8 ≡ at % 8 + (k - at) = omega arith in
      rw (byte, place, pow-add, div-div-eq-div-mul) N.refl

  pub clear_byte : bits ≡ 0 → N.BitsAre N.false (bit bitmap) at (at / 8 * 8 + 8)
  clear_byte = grind (arith, bit_in)

  module _ (fits : N.slice_index bitmap (at / 8) < 2 ^ 8) where
    -- none is in the next byte
    beyond : (i : ℕ) → 8 ≤ at % 8 + i → bit_at bits i ≡ 0
    beyond i above = rw (div-div-eq-div-mul, ← pow-add) (bit_at_above _ 8 _ fits (omega arith))

    -- the lowest one that is set
    pub first_set : 0 < bits → N.BitsAre N.false (bit bitmap) at (at + trailing_zeros w8 bits) × (bit bitmap (at + trailing_zeros w8 bits) ≡ N.true)
    first_set some =
        let t = trailing_zeros w8 bits in
        let low = bit_at-trailing_zeros w8 bits some (omega arith) in
        let within : at % 8 + t < 8 = grind (arith, beyond) in
        let there : (at + t) - at ≡ t = omega arith in (
          λ k least most. rw (low.2 (k - at) (omega arith)) at (bit_in k least (omega arith)),
          rw (low.1) at (rw there at (bit_in (at + t) (omega arith) (omega arith))),
        )

    -- those that are set before the lowest one that isn't
    pub ones_before : (at % 8 + trailing_ones w32 bits ≤ 8) × N.BitsAre N.true (bit bitmap) at (at + trailing_ones w32 bits)
    ones_before =
        let ones = bit_at-trailing_ones w32 bits (omega arith) in
        let above = beyond (8 - at % 8) (omega arith) in
        let one = ones.2 (8 - at % 8) in
        let within : at % 8 + trailing_ones w32 bits ≤ 8 = grind arith in
        (within, λ k least most. rw (ones.2 (k - at) (omega arith)) at (bit_in k least (omega arith)))
