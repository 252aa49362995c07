use Rattle.tds_meter.proofs as N
use N.{◌≡◌, ◌∙◌, List, ℕ, length, drop, ap, arith, Space}

-- what is lent is what was added
pub returns : N.area.Area.grow_within.Goals.returns
returns c =
    let old = c.args.self.now in
    let more = c.add.ensures.0 in
    let len : length old.bytes ≡ c.self.inside.len =
    ap (λ (s : Space). length s.bytes) (N.sym c.self.view_is)
    ∙ N.length-take-le c.self.inside.len c.self.inside.store.items (omega (arith, c.self.inside.store.ok.0)) in
    let lent : c.tail.result.now ≡ more =
    c.tail.ensures.value ∙ ap (λ (s : Space). drop c.self.inside.len s.bytes) c.add.ensures.2
    ∙ ap (λ k. drop k (N.appended old more).bytes) (N.sym len) ∙ N.drop-append_seam old.bytes more in (
      (N.refl, λ w. rw (lent, c.add.ensures.2, len)),
      record { lends = tt; value = rw (lent, c.add.ensures.1) },
    )
