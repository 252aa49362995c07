use Rattle.tds_text.proofs as N
use N.{arith, [], ◌*◌, ◌+◌, ◌-◌, ◌∙◌, ◌∷◌, ◌≡◌, ◌≤◌}
use N.fields.write_binary.Goals as goal

marked : (to : N.List N.ℕ) → 2 ≤ N.length to → N.take 2 (N.slice_set (N.slice_set to 0 48) 1 120) ≡ 48 ∷ 120 ∷ []
marked (a ∷ b ∷ to) h = N.refl
marked to h = grind arith

pub returns : goal.returns
returns = grind (arith, N.common_steps, marked, N.take-append-add, N.take-append-le, N.take_all)

pub returns-then-to : goal.returns-then-to
returns-then-to c =
    let n = c.args.n in
    let new = c.put_digits.new.to in
    let source = c.args.source.now in
    let all : n + (16 - n) ≡ 16 = omega arith in
    let few : 2 * n ≤ 32 = omega arith in
    let within : n ≤ N.length source = omega arith in
    let digits : N.take (2 * n) new ≡ N.encode_lower (N.take n source) = N.sym (N.take-take (2 * n) 32 new few)
    ∙ rw c.put_digits.ensures (rw all at (N.SingleLaws.hex-front n (16 - n) source within)) in
    grind (arith, N.common_steps, marked, N.take-append-add, N.take-append-le, digits)
