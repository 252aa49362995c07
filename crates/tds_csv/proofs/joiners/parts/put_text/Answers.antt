use Rattle.tds_csv.proofs as N
use N.joiners.parts.put_text.Goals as goal
use N.{arith}
use N.PutParts.{puts_break}

pub returns-in_err-put_chunk : goal.returns-in_err-put_chunk
returns-in_err-put_chunk g c =
    puts_break g.C.Bytewise.text c.laws.ensures.appends c.loop-taken.taken c.min-end.result c.args.bytes.now (omega arith) c.loop-taken.invariant.puts
    c.in_err-put_chunk.ensures c.from_residual-in_err-put_chunk.ensures.1

pub loop-taken-preserved : goal.loop-taken-preserved
loop-taken-preserved g c = record {
  within = search N.rules;
  puts = N.PutParts.puts_more g.C.Bytewise.text c.laws.ensures.appends c.loop-taken.taken c.min-end.result c.args.bytes.now (omega arith)
      c.loop-taken.invariant.puts c.in_ok-put_chunk.ensures;
}

pub returns-in_err-used : goal.returns-in_err-used
returns-in_err-used g c = puts_break g.C.Bytewise.text c.laws.ensures.appends c.loop-taken.taken (N.length c.args.bytes.now) c.args.bytes.now (omega arith)
    c.loop-taken.invariant.puts c.in_err-used.ensures.puts c.from_residual.ensures.1

pub loop-taken-preserved-then-room-ge-PART : goal.loop-taken-preserved-then-room-ge-PART
loop-taken-preserved-then-room-ge-PART g c = record {
  within = omega (arith, c.in_ok-used.ensures.within);
  puts = N.PutParts.puts_some g.C.Bytewise.text c.laws.ensures.appends c.loop-taken.taken (N.length c.args.bytes.now) c.in_ok-used.used c.args.bytes.now
      (omega (arith, c.in_ok-used.ensures.within)) c.loop-taken.invariant.puts c.in_ok-used.ensures.puts;
}
