use Rattle.tds_text.proofs as N
use N.{length, ℕ, ◌*◌, ◌+◌, ◌-◌, ◌≡◌, ◌≤◌}
use N.lanes_hex.encode.Goals as goal

pub loop-at-preserved : goal.loop-at-preserved
loop-at-preserved = grind (N.arith, N.common_steps, N.SingleLaws.hex-append, N.take-add)

-- the digits of the other bytes were written after them
ended : (bytes to new : N.List ℕ) (at : ℕ) → at ≤ length bytes → length to ≡ 2 * length bytes → N.take (2 * at) to ≡ N.encode_lower (N.take at bytes)
    → new ≡ N.encode_lower (N.take (length bytes - at) (N.drop at bytes)) → N.put_mid (2 * at) (length to - 2 * at) to new ≡ N.encode_lower bytes
ended bytes to new at within room front back =
    let none = N.nil_from_length (N.post_of (2 * at) (length to - 2 * at) to) (grind (N.arith, N.length-drop)) in
    rw (none, N.append-nil, front, back, N.take_rest, ← N.SingleLaws.hex-append N.lower_digits, N.take-append-drop)

pub returns : goal.returns
returns = grind (N.arith, ended)
