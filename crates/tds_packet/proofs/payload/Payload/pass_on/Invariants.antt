use Rattle.tds_packet.proofs as N
use N.payload.Payload.pass_on.Given as goal
use N.{◌≡◌, ◌+◌, ◌-◌, ◌≤◌}

abbrev pub invariant-loop-passed : goal.invariant-loop-passed
invariant-loop-passed g l = record {
  sound : N.IsSound l.self;
  same : N.IsOnSame l.initial.self l.self;
  within : l.passed ≤ l.n;
  place : l.self.place ≡ l.initial.self.place + l.passed;
  going : l.self.stopped ≡ N.None;
  passes : N.PassesOver g.R.Read.remaining l.initial.self l.self l.passed;
}

abbrev pub decreases-loop-passed : goal.decreases-loop-passed
decreases-loop-passed g l = l.n - l.passed
