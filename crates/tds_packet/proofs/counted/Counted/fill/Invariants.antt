use Rattle.tds_packet.proofs as N
use N.counted.Counted.fill.Given as goal
use N.{◌≡◌, ◌-◌, ◌≤◌, length}

abbrev pub invariant-loop-at : goal.invariant-loop-at
invariant-loop-at g l = record {
  same : length l.to ≡ length l.initial.to;
  within : l.at ≤ length l.to;
  stays : N.Stays l.initial.self.failures l.self.failures (N.take l.at l.to);
  read : N.Consumes (g.R.Read.remaining l.initial.self.device) (g.R.Read.remaining l.self.device) (N.take l.at l.to);
}

abbrev pub decreases-loop-at : goal.decreases-loop-at
decreases-loop-at g l = length l.to - l.at
