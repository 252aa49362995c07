use Rattle.tds_text.proofs as N
use N.{arith, ◌+◌, ◌≡◌}

pub loop-at-preserved : N.utf16.convert_blocks.Goals.loop-at-preserved
loop-at-preserved c =
    let l = c.loop-at in
    let are_plain : c.are_many_plain.result ≡ N.true = grind (arith, c.if-not-are_many_plain.false) in
    let first = N.WideText.plain_more (omega arith) (omega arith) (c.are_many_plain.ensures.front are_plain) c.all_low_bytes.ensures c.put_lanes.ensures
    l.invariant.now in
    let used : l.at + 32 + 32 ≡ l.at + 64 = omega arith in
    let made : l.made + 16 + 16 ≡ l.made + 32 = omega arith in
    record {
      more = omega arith;
      single = omega arith;
      now = rw (used, made) at (N.WideText.plain_more {at = l.at + 32} {made = l.made + 16} (omega arith) (omega arith)
          (c.are_many_plain.ensures.back are_plain) c.all_low_bytes-in-loop-at.ensures c.put_lanes-in-loop-at.ensures first);
    }
