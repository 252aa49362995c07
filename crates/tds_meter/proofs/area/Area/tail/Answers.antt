use Rattle.tds_meter.proofs as N
use N.{◌≡◌, ◌∙◌, ◌+◌, ◌-◌, ◌++◌, ◌≤◌, ℕ, List, length, take, drop, ap, Space}

-- what is lent lies in the front of the store
pub returns : N.area.Area.tail.Goals.returns
returns c =
    let from = c.args.from in
    let len = c.self.inside.len in
    let old = c.self.inside.store.items in
    let all : N.vec_len c.self.inside.store ≡ length old = c.self.inside.store.ok.0 in
    let within : len ≤ length old = omega N.arith in
    let le : from ≤ len = omega (N.arith, ap (λ (s : Space). length s.bytes) c.self.view_is, N.length-take-le len old within) in
    let rest : from + (len - from) ≡ len = omega N.arith in
    let written : List ℕ → List ℕ = λ w. take from old ++ (w ++ drop (length w) (drop from old)) in
    let at : List ℕ → Space = λ bytes. record { bytes = bytes; room = c.self.inside.room; peak = c.self.inside.peak } in (
      (
        N.refl,
        λ w. ap (λ n. at (take len (N.refill n old (written w)))) all ∙ ap at (N.Overwriting.front-refill len from w old le within)
            ∙ ap (λ s. N.with_tail s from w) c.self.view_is,
      ),
      record {
        lends = tt;
        value = c.slice_mut.ensures.value ∙ N.sym (N.drop-take from (len - from) old) ∙ ap (λ m. drop from (take m old)) rest
            ∙ ap (λ (s : Space). drop from s.bytes) c.self.view_is;
      },
    )
