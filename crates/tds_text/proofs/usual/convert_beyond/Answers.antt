use Rattle.tds_text.proofs as N

pub loop-at-preserved : N.usual.convert_beyond.Goals.loop-at-preserved
loop-at-preserved c = let next = c.take_beyond-n.ensures in
    record { from = omega N.arith; long = search N.rules; converts = N.UsualText.added c.loop-at.invariant.converts next.taken next.next }
