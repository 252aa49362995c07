use Rattle.tds_packet.proofs as N
use N.recutting.write_packets.Given as goal
use N.{◌≡◌, ◌-◌, ◌*◌, ◌≤◌}

abbrev pub invariant-loop-to : goal.invariant-loop-to
invariant-loop-to g l = record {
  going : N.IsGoing l.payload;
  same : N.IsOnSame l.initial.payload l.payload;
  room : l.output.room ≡ l.initial.output.room;
  few : l.done.packets ≤ l.payload.place;
  short : l.done.bytes ≤ 2 * l.payload.place;
  cutting : N.Recuts.Cutting g.R.Read.remaining g.W.Write.contents (l.output.room - 8) (N.seen g.R.Read.remaining l.initial.payload) l.payload l.initial.to l.to
      l.done;
}

abbrev pub decreases-loop-to : goal.decreases-loop-to
decreases-loop-to g l = l.payload.max_wire - l.payload.place
