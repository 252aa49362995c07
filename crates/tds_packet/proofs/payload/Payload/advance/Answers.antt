use Rattle.tds_packet.proofs as N
use N.payload.Payload.advance.Goals as goal
use N.{◌+◌, refl}

pub returns-in-Ok-clause-gives : goal.returns-in-Ok-clause-gives
returns-in-Ok-clause-gives g c = let s = c.args.self.now in
    let read = c.read_packet.new in
    let t = record s {
      from = record s.from { now = read.from };
      packet = record s.packet { now = read.packet };
      at = 0;
      last = c.in-Ok.head.last;
      wire = s.wire + c.from.result;
    } in
    N.Futures.advance_ok g.R.Read.remaining s t _ c.requires (grind N.arith) refl (search N.rules) refl refl refl refl c.in-Ok.ensures.read

pub returns-in-Err-clause-gives : goal.returns-in-Err-clause-gives
returns-in-Err-clause-gives g c =
    let s = c.args.self.now in
    N.Futures.advance_err g.R.Read.remaining s (record s { from = record s.from { now = c.read_packet.new.from } }) c.read_packet.new.packet.bytes c.requires
    c.in-Err.ensures.read
