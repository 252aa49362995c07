use Rattle.tds_packet.proofs as N
use N.counted.Counted.deliver.Given as goal
use N.{◌-◌, ◌≤◌}

abbrev pub invariant-loop-taken : goal.invariant-loop-taken
invariant-loop-taken g l = record {
  within : l.taken ≤ N.length l.bytes;
  stays : N.Stays l.initial.self.failures l.self.failures (N.take l.taken l.bytes);
  written : N.Appends (g.W.Write.contents l.initial.self.device) (g.W.Write.contents l.self.device) (N.take l.taken l.bytes);
}

abbrev pub decreases-loop-taken : goal.decreases-loop-taken
decreases-loop-taken g l = N.length l.bytes - l.taken
