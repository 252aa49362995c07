use Rattle.tds_text.proofs as N
use N.utf16.convert_full.Goals as goal

pub loop-end-preserved : goal.loop-end-preserved
loop-end-preserved c = record {
  more = omega N.arith;
  room = omega N.arith;
  long = search N.rules;
  now = N.WideText.all_more 8 (omega N.arith) c.in-Some.ensures c.loop-end.invariant.now;
}

pub returns-then-at-last : goal.returns-then-at-last
returns-then-at-last c = record { more = omega N.arith; after = N.WideText.all_more 8 (omega N.arith) c.in-Some.ensures c.loop-end.invariant.now }
