use Rattle.tds_cells.proofs as N
use N.row_format.RowFormat.run_rows.Goals as goal

pub returns-clause-ends : goal.returns-clause-ends
returns-clause-ends c = elim c.if-self.branch [
  | goal.then-self w ↦ rw w.run-is (w.run_known-run.ensures.ends c.args.at.now.walk)
  | goal.else-self w ↦ rw w.run-is (w.run_known-run-else-self.ensures.ends c.args.at.now.walk)
]
