use Rattle.tds_text.proofs as N
use N.{arith}
use N.utf16.convert_mixed.Goals as goal

pub convert_plain-run-requires : goal.convert_plain-run-requires
convert_plain-run-requires g c = record {
  before = N.WideText.all_more 8 (omega arith) (N.WideText.plain_added (N.chunk _ 16 c.args.bytes.now) _ _ _ 8 8 (omega arith) (omega arith)
      c.units_of.ensures N.refl (c.if-are_plain.ensures N.refl) c.low_bytes.ensures c.put_lanes.ensures) c.loop-at.invariant.now;
  more = omega arith;
  within = omega arith;
  room = omega arith;
}

pub loop-at-preserved : goal.loop-at-preserved
loop-at-preserved g c = record {
  more = omega arith;
  fits = search N.rules;
  whole = omega arith;
  now = N.WideText.all_more 8 (omega arith) c.in-Some.ensures c.loop-at.invariant.now;
}
