use Rattle.tds_csv.proofs as N
use N.{ℕ}

pub returns-in-Err-clause-puts : N.joiners.parts.put_part.Goals.returns-in-Err-clause-puts
returns-in-Err-clause-puts g c =
    let some : N.PutsPiece {U = ℕ} g.W.Write.contents c.args.sink.now c.keep.new.self
    (g.C.Bytewise.text (N.take c.convert_part-done.result.used c.args.bytes.now)) (N.Err c.in-Err.stop) = grind (N.arith, N.common_steps) in
    N.PutParts.puts_less g.C.Bytewise.text c.laws.ensures.appends c.convert_part-done.result.used c.args.bytes.now some
