use Rattle.tds_packet.specs.Payloads.{IsSound}
use Rattle.parts_tests.proofs.packet.drain.Given as goal

abbrev pub invariant-loop : goal.invariant-loop
invariant-loop g l = IsSound l.payload
