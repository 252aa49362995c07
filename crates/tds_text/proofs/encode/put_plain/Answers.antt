use Rattle.tds_text.proofs as N

pub loop-at-preserved : N.encode.put_plain.Goals.loop-at-preserved
loop-at-preserved = grind (N.arith, N.take-add, N.Singles.plain_both, N.Singles.plain_next, N.take-take)
