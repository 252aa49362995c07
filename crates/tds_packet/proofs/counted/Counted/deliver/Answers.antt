use Rattle.tds_packet.proofs as N

pub loop-taken-preserved : N.counted.Counted.deliver.Goals.loop-taken-preserved
loop-taken-preserved = grind (N.arith, N.common_steps, N.take-take, N.take-add)
