use Rattle.tds_text.proofs as N

pub loop-at-preserved : N.tight.put_all_plain.Goals.loop-at-preserved
loop-at-preserved = grind (N.arith, N.common_steps, N.take-add, N.Singles.plain_both)
