use Rattle.tds_text.proofs as N
use N.{take, ℕ, ◌*◌, ◌++◌, ◌+◌, ◌∙◌, ◌≡◌}

-- the digits of twice 16 bytes were written
both_halves : (bytes first second third : N.List ℕ) (at : ℕ) → take (2 * at + 32) second ≡ take (2 * at) first ++ N.encode_lower (N.chunk at 16 bytes)
    → take (2 * (at + 16) + 32) third ≡ take (2 * (at + 16)) second ++ N.encode_lower (N.chunk (at + 16) 16 bytes)
    → take (2 * at + 64) third ≡ take (2 * at) first ++ N.encode_lower (N.chunk at 32 bytes)
both_halves bytes first second third at one two =
    let half : 2 * at + 32 ≡ 2 * (at + 16) = omega N.arith in
    let all : 2 * (at + 16) + 32 ≡ 2 * at + 64 = omega N.arith in
    rw all at two ∙ rw (← half, one, N.append_assoc, ← N.SingleLaws.hex-append N.lower_digits, N.WideText.two_chunks 16 16)

pub returns : N.lanes_hex.put_wide_digits.Goals.returns
returns = grind (N.arith, both_halves)
