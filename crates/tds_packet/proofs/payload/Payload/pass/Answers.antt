use Rattle.tds_packet.proofs as N
use N.payload.Payload.pass.Goals as goal
use N.{rules}

pub returns-clause-all : goal.returns-clause-all
returns-clause-all = grind (N.arith, N.common_steps, N.buffered, N.length-take-le, N.length-drop)
