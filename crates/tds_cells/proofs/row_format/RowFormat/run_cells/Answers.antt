use Rattle.tds_cells.proofs as N
use N.row_format.RowFormat.run_cells.Goals as goal

pub returns-in-Some-clause-ends : goal.returns-in-Some-clause-ends
returns-in-Some-clause-ends g c = λ none some. c.run_along.ensures.ends none

pub returns-clause-ends : goal.returns-clause-ends
returns-clause-ends g c = λ none some. c.run_unknown.ensures.ends none

pub returns-in-Some-clause-left : goal.returns-in-Some-clause-left
returns-in-Some-clause-left g c = λ columns column left knows is few step.
    c.run_along.ensures.left columns column left knows is (omega (N.arith, few, c.in-Some.ensures.all)) step
