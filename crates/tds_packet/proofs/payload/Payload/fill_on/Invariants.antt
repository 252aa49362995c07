use Rattle.tds_packet.proofs as N
use N.payload.Payload.fill_on.Given as goal
use N.{◌≡◌, ◌+◌, ◌-◌, ◌≤◌}

abbrev pub invariant-loop-at : goal.invariant-loop-at
invariant-loop-at g l = record {
  sound : N.IsSound l.self;
  same : N.IsOnSame l.initial.self l.self;
  within : l.at ≤ N.length l.to;
  place : l.self.place ≡ l.initial.self.place + l.at;
  going : l.self.stopped ≡ N.None;
  takes : N.Takes (N.seen g.R.Read.remaining l.initial.self) (N.seen g.R.Read.remaining l.self) (N.take l.at l.to) l.at;
}

abbrev pub decreases-loop-at : goal.decreases-loop-at
decreases-loop-at g l = N.length l.to - l.at
