use Rattle.tds_cells.proofs as N
use N.{arith, rules}
use N.chunks.write_chunks.Goals as goal

pub loop-n-init : goal.loop-n-init
loop-n-init = grind (arith, N.SeveralChunks.wrote_none)

pub loop-n-preserved : goal.loop-n-preserved
loop-n-preserved = grind (arith, N.take_all, N.length-drop, N.length-take, N.SeveralChunks.wrote_more)

pub returns : goal.returns
returns c = λ _. N.SeveralChunks.chunks_written (N.conversion_of c.args.content) c.args.bytes.now c.read_u64.result _ _ _ c.loop-n.invariant.wrote
    (search arith)
    (search (arith, rules)) (search (arith, rules)) (c.lies_whole.ensures (search rules)).1 (search (arith, rules)) (search (arith, rules))
    c.close.ensures.text (search (arith, rules))
