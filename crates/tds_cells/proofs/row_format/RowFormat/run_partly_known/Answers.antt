use Rattle.tds_cells.proofs as N
use N.{arith, ◌+◌, ◌-◌, ◌∙◌, ◌≡◌}
use N.row_format.RowFormat.run_partly_known.Goals as goal

pub loop-run-init : goal.loop-run-init
loop-run-init c = rw c.none-run.ensures N.RowFormatRuns.rows_begin

pub loop-run-preserved-then-is_end : goal.loop-run-preserved-then-is_end
loop-run-preserved-then-is_end c = N.RowFormatRuns.row_begun c.requires.some (grind arith)
    (grind arith)
    (grind arith) c.loop-run.invariant

pub loop-run-preserved : goal.loop-run-preserved
loop-run-preserved c =
    let run = c.loop-run.run in
    let cells = c.run_cells-cells.result in
    N.RowFormatRuns.rows_more cells.used (run.made + cells.made) _ _ (omega arith) (search arith) (search arith)
    (N.RunSteps.made_more run.made cells.made c.loop-run.to c.run_cells-cells.new.to _ (search arith) (search arith))
    c.run_cells-cells.ensures.cells c.loop-run.invariant

pub returns-then-cells-eq0-clause-ends : goal.returns-then-cells-eq0-clause-ends
returns-then-cells-eq0-clause-ends c = rw (c.run_cells-cells.ensures.within.stays c.if-cells-eq0.true) (λ columns column left knows ahead step.
    let l = c.loop-run in
    let lent = N.take (N.length l.to - l.run.made) (N.drop l.run.made l.to) in
    let room : N.length lent ≡ N.length c.args.to.now - l.run.made =
    omega arith in
    let before = N.RowFormatSteps.not_end _ knows.counted ahead.counted (N.sym c.is_end.ensures ∙ c.if-is_end.false) in
    rw room at (rw (N.all_after _ l.run.used) at (c.run_cells-cells.ensures.ends c.if-cells-eq0.true (omega arith)))
    columns column left knows ahead step)
