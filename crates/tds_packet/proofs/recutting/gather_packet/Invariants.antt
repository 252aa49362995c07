use Rattle.tds_packet.proofs as N
use N.recutting.gather_packet.Given as goal
use N.{◌≡◌, ◌-◌}

abbrev pub invariant-loop-payload : goal.invariant-loop-payload
invariant-loop-payload g l = record {
  going : N.IsGoing l.payload;
  same : N.IsOnSame l.initial.payload l.payload;
  room : l.output.room ≡ l.initial.output.room;
  body : N.Recuts.Gathering g.R.Read.remaining l.initial.payload l.payload l.fn.output.room l.output.bytes;
}

abbrev pub decreases-loop-payload : goal.decreases-loop-payload
decreases-loop-payload g l = l.output.room - N.length l.output.bytes
