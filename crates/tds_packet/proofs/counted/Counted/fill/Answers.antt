use Rattle.tds_packet.proofs as N
use N.counted.Counted.fill.Goals as goal
use N.{◌≡◌, ℕ, ◌+◌, ◌-◌, ◌≤◌, ◌++◌, rules, length, take, ◌∙◌}

-- the first bytes of a part that was written over
take_put : {a : ℕ} (k : ℕ) {n : ℕ} (xs ys : N.List ℕ) → a ≤ length xs → n ≤ length ys → take a xs ++ take n ys ≡ take (a + n) (N.put_mid a k xs ys)
take_put = grind (N.arith, N.length-take-le, N.take-append-add, N.take-append-le)

pub loop-at-preserved : goal.loop-at-preserved
loop-at-preserved = grind (N.arith, N.common_steps, take_put, N.Consumes-trans)

pub returns-in-Err : goal.returns-in-Err
returns-in-Err = grind (N.arith, N.common_steps, N.put_mid, N.length-take-le, N.Consumes-kept, N.one_more)
