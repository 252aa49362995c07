use Rattle.tds_meter.proofs as N
use N.{◌≡◌, ◌+◌, ◌≤◌, length, arith, Space}

-- the store begins as it did
pub returns : N.area.Area.add.Goals.returns
returns c =
    let len = c.self.inside.len in
    let old = c.self.inside.store.items in
    let new = c.reach.new.store.items in
    let room = c.self.inside.room in
    let s : Space = record { bytes = N.take len old; room = room; peak = c.self.inside.peak } in
    let grown : Space = record { bytes = N.take (len + c.args.n) new; room = room; peak = c.max-self-inside.result } in
    let all : N.vec_len c.self.inside.store ≡ length old = c.self.inside.store.ok.0 in
    let same : N.take (length old) new ≡ old = rw all at c.reach.ensures.kept in
    let Grown : Space → Type 0 = λ from. N.Grows from grown c.args.n in
    N.subst Grown c.self.view_is (N.Overwriting.grows s len c.args.n grown.peak old new N.refl same (omega arith)
    (omega (arith, c.reach.new.store.ok.0)) c.max-self-inside.ensures)
