use Rattle.tds_text.proofs as N
use N.utf16.convert_plain.Goals as goal

pub returns-then-not-are_all_plain-clause-ends : goal.returns-then-not-are_all_plain-clause-ends
returns-then-not-are_all_plain-clause-ends c = λ within plain.
    c.are_all_plain.ensures.other (grind (N.arith, c.if-not-are_all_plain.true)) (rw (N.WideText.two_chunks 16 16 _ _) plain)

pub loop-at-preserved : goal.loop-at-preserved
loop-at-preserved c =
    record {
      more = omega N.arith;
      single = omega N.arith;
      now = N.WideText.plain_more (omega N.arith) (omega N.arith)
          (c.are_all_plain.ensures.plain (grind (N.arith, c.if-not-are_all_plain.false))) c.all_low_bytes.ensures
          c.put_lanes.ensures c.loop-at.invariant.now;
    }
