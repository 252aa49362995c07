use Rattle.tds_cells.proofs as N
use N.nulls.clear_end.Goals as goal

pub loop-at-preserved : goal.loop-at-preserved
loop-at-preserved = grind (N.arith, N.Bits.clear_byte)

pub returns-then-bits-ne0 : goal.returns-then-bits-ne0
returns-then-bits-ne0 c =
    let set = N.Bits.first_set c.args.bitmap.now c.loop-at.at (search N.rules) (omega N.arith) in
    grind N.arith
