use Rattle.tds_packet.proofs as N
use N.{◌≡◌, ◌<◌, [], ◌∷◌}

pub returns-clause-gives : N.payload.Payload.take.Goals.returns-clause-gives
returns-clause-gives g c = let s = c.args.self.now in
    let ready : s.at < N.length s.packet.now.bytes = omega N.arith in
    let head : N.take 1 (N.drop s.at s.packet.now.bytes) ≡ N.get_or _ s.at 0 ∷ [] = rw (c.bytes.ensures.value, N.drop-cons _ s.at 0 ready) in
    rw head at (N.Futures.further_takes g.R.Read.remaining s 1 1 (grind N.arith) c.requires.going.going)
