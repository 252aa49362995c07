use Rattle.tds_packet.proofs as N
use N.payload.Payload.read_on.Given as goal
use N.{◌≡◌, ◌-◌, ◌<◌, []}

abbrev pub invariant-loop-self : goal.invariant-loop-self
invariant-loop-self g l = record {
  sound : N.IsSound l.self;
  same : N.IsOnSame l.initial.self l.self;
  lazy : l.initial.self.at < N.length l.initial.self.packet.now.bytes → l.self ≡ l.initial.self;
  place : l.self.place ≡ l.initial.self.place;
  going : l.self.stopped ≡ N.None;
  gives : N.Takes (N.seen g.R.Read.remaining l.initial.self) (N.seen g.R.Read.remaining l.self) [] 1;
}

abbrev pub decreases-loop-self : goal.decreases-loop-self
decreases-loop-self g l = l.self.max_wire - l.self.wire
