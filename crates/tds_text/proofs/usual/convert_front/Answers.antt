use Rattle.tds_text.proofs as N
use N.usual.convert_front.Goals as goal

pub loop-at-preserved-then-n-eq-LANES : goal.loop-at-preserved-then-n-eq-LANES
loop-at-preserved-then-n-eq-LANES c =
    let next = c.take_plain-n.ensures in
    record { long = search N.rules; converts = N.UsualText.added_plain c.loop-at.invariant.converts _ next.within next.taken next.plain }

pub loop-at-preserved : goal.loop-at-preserved
loop-at-preserved c =
    let next = c.take_plain-n.ensures in
    let plain = N.UsualText.added_plain c.loop-at.invariant.converts _ next.within next.taken next.plain in
    let quote = c.put_doubled-made.ensures in
    record { long = search N.rules; converts = N.UsualText.added_one plain (search N.arith) (search N.rules) quote.most quote.written }
