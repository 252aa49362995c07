use Rattle.tds_cells.proofs as N
use N.row_format.RowFormat.write_one.Goals as goal

pub returns-clause-cell : goal.returns-clause-cell
returns-clause-cell = grind (N.arith, N.RunSteps.made_more)

pub returns-in_err-written-clause-cell : goal.returns-in_err-written-clause-cell
returns-in_err-written-clause-cell = grind (N.arith, N.FormatSteps.left_less)
