use Rattle.tds_meter.proofs as N
use N.{◌≤◌}

-- the bytes after the first n stand at the front of the store
pub returns : N.area.Area.drop_front.Goals.returns
returns c =
    let n = c.args.n in
    let len = c.self.inside.len in
    let store = c.self.inside.store in
    let within : len ≤ N.length store.items = omega (N.arith, store.ok.0) in
    let le : n ≤ len = omega (N.arith, N.ap (λ (s : N.Space). N.length s.bytes) c.self.view_is, N.length-take-le len store.items within) in
    N.Shifting.front-dropped c.args.self.now n len c.self.inside.room c.self.inside.peak store.items c.copy_within.new.self.items
    le within c.copy_within.ensures.items c.self.view_is
