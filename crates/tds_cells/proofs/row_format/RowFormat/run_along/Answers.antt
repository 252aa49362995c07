use Rattle.tds_cells.proofs as N
use N.row_format.RowFormat.run_along.Goals as goal

pub returns-clause-ends : goal.returns-clause-ends
returns-clause-ends c = λ none. N.RowFormatRuns.first_left c.requires.ahead (c.run_formats-run.ensures.run.ends (grind N.arith))

pub returns-clause-left : goal.returns-clause-left
returns-clause-left c = N.RowFormatRuns.next_left c.requires.ahead c.step.new.at _ c.step.ensures.further c.run_formats-run.ensures.left
