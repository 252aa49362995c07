use Rattle.tds_packet.proofs as N
use N.{◌≡◌}

pub returns-in-Err-clause-writes : N.recutting.write_packet.Goals.returns-in-Err-clause-writes
returns-in-Err-clause-writes g c = let all = N.packet_bytes (N.cut_packet _ c.args.last (N.drop 8 c.args.output.now.bytes)) in
    let k = c.in-Err.taken in
    let is : c.bytes.result.now ≡ all = grind N.arith in
    let len : c.len-length.result ≡ N.length all = search N.rules in (
      N.take k all,
      N.drop k all,
      N.take-append-drop k all,
      rw (← is) c.in-Err.ensures.err,
      rw (N.length-take-le k all (grind N.arith), N.length-drop k all, ← len) c.write_failed.ensures,
      N.subst (λ l. N.Rises c.args.to.now.failures c.deliver.new.self.failures (N.take k l)) is c.in-Err.ensures.counted,
    )
