use Rattle.tds_columns.proofs as N
use N.view.Columns.count.Goals as goal
use N.{◌∙◌}

pub returns-clause-value : goal.returns-clause-value
returns-clause-value = grind (N.arith, N.ViewLaws.length_columns)

pub returns-clause-columns : goal.returns-clause-columns
returns-clause-columns = grind (N.arith, N.ViewLaws.description_shows)

pub returns-clause-range : goal.returns-clause-range
returns-clause-range = grind (N.arith, N.ViewLaws.length_columns)
