use Rattle.tds_packet.proofs as N
use N.{◌≡◌, [], ◌+◌, ◌-◌, ◌≤◌, arith, seen}
use N.PayloadLaws.{between_of}

pub returns : N.payload.Payload.piece.Goals.returns
returns g c = let s = c.ready.new.self in
    let n = c.min-n.result in
    let ready = c.in_ok-ready.ensures in
    let sound = ready.payload.answers.sound in
    let going = ready.payload.answers.going in
    let up : n ≡ N.min c.args.max (N.length s.packet.now.bytes - s.at) = search N.rules in
    let m : (s.at + n) - s.at ≡ n = omega arith in
    let fits : n ≤ N.length (N.buffered s) = omega (arith, N.length-drop s.at s.packet.now.bytes, up) in
    let len = N.length-take-le n (N.buffered s) fits in
    let value = c.bytes-bytes.ensures.value in (
      (
        N.refl,
        λ _. tt,
        (
          record {
            at = grind arith;
            place = omega arith;
            wire = sound.wire;
            limit = sound.limit;
            peak = sound.peak;
            used_up = rw going tt;
          },
          ready.payload.answers.same,
          (
            rw (value, m) (N.Futures.Takes-trans (seen g.R.Read.remaining c.args.self.now) (seen g.R.Read.remaining s)
                (seen g.R.Read.remaining (N.further s n)) []
                (N.take n (N.buffered s)) 1 1 (N.le_refl 1) ready.gives (N.Futures.further_takes g.R.Read.remaining s n 1 fits going)),
            between_of g.R.Read.remaining (N.further s n) going,
            grind arith,
            going,
          ),
          grind arith,
        ),
      ),
      record { len = grind arith; after = tt },
    )
