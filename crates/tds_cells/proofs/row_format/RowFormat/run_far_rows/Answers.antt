use Rattle.tds_cells.proofs as N
use N.{arith}
use N.row_format.RowFormat.run_far_rows.Goals as goal

pub loop-rest-preserved : goal.loop-rest-preserved
loop-rest-preserved = grind (arith, N.length-take-le, N.NbcRuns.nbc_row_more, N.common_steps, N.all_after)

pub returns-then-not-is_end-clause-ends : goal.returns-then-not-is_end-clause-ends
returns-then-not-is_end-clause-ends c =
    let l = c.loop-rest in
    let run = c.run_far_marked-run in
    rw l.invariant.room at (N.NbcRuns.nbc_rows_end l.whole.used c.bitmap_size-size.result c.args.bytes.now c.args.self.now c.start-at.result run.new.at
    l.whole.made l.to run.new.to run.result.used run.result.made (grind arith)
    c.start-at.ensures.first c.start-at.ensures.ahead (search arith) run.ensures.cells run.ensures.ends (λ is. search arith))

pub returns-then-is_empty-clause-rows : goal.returns-then-is_empty-clause-rows
returns-then-is_empty-clause-rows = grind (arith, N.length-take-le, N.NbcRuns.nbc_row_last)
