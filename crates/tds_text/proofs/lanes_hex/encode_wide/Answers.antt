use Rattle.tds_text.proofs as N
use N.{arith, take, ℕ, ◌*◌, ◌++◌, ◌+◌, ◌≡◌}

-- the digits of twice 32 bytes were written
two_steps : (bytes first second third : N.List ℕ) (at : ℕ) → take (2 * at) first ≡ N.encode_lower (take at bytes)
    → take (2 * at + 64) second ≡ take (2 * at) first ++ N.encode_lower (N.chunk at 32 bytes)
    → take (2 * (at + 32) + 64) third ≡ take (2 * (at + 32)) second ++ N.encode_lower (N.chunk (at + 32) 32 bytes)
    → take (2 * (at + 64)) third ≡ N.encode_lower (take (at + 64) bytes)
two_steps bytes first second third at before one two =
    let half : 2 * at + 64 ≡ 2 * (at + 32) = omega arith in
    let all : 2 * (at + 32) + 64 ≡ 2 * (at + 64) = omega arith in
    let end : at + 32 + 32 ≡ at + 64 = omega arith in
    let more = N.Singles.text_taken N.SingleLaws.hex_bytewise bytes at 32 one before in
    rw end at (rw all at (N.Singles.text_taken N.SingleLaws.hex_bytewise bytes (at + 32) 32 two (rw half at more)))

pub loop-at-preserved : N.lanes_hex.encode_wide.Goals.loop-at-preserved
loop-at-preserved = grind (arith, two_steps)
