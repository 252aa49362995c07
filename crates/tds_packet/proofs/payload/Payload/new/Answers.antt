use Rattle.tds_packet.proofs as N
use N.{refl}
use N.Words.{coming_of}

pub returns-clause-begun : N.payload.Payload.new.Goals.returns-clause-begun
unfolding coming_of
returns-clause-begun g c = record {
  sound = search N.rules;
  room = search N.rules;
  empty = search N.rules;
  limit = refl;
  place = refl;
  going = refl;
  begins = grind N.arith;
  between = N.PayloadLaws.between_of g.R.Read.remaining (record {
    from = c.args.from;
    packet = record c.args.packet { now = c.clear.new.self };
    at = 0;
    last = N.false;
    wire = 0;
    max_wire = c.args.max_wire;
    place = 0;
    stopped = N.None;
  }) refl;
}
