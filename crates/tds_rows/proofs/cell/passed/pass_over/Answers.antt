use Rattle.tds_rows.proofs as N
use N.cell.passed.pass_over.Goals as goal
use N.Successes.{value_passes}

pub returns-in-Binary-clause-cell : goal.returns-in-Binary-clause-cell
returns-in-Binary-clause-cell g c = λ _.
    elim c.in-Binary.is [
      | N.inl is ↦ rw is (c.pass_long-in-Binary.ensures.cell (N.Binary c.in-Binary.reach) N.HexDigits (grind N.arith))
      | N.inr is ↦ rw is (c.pass_long-in-Binary.ensures.cell (N.Narrow c.in-Binary.reach) N.Windows1252Text (grind N.arith))
    ]

pub returns-in-Wide-clause-cell : goal.returns-in-Wide-clause-cell
returns-in-Wide-clause-cell g c = λ _. rw c.in-Wide.is (c.pass_long.ensures.cell (N.Wide c.in-Wide.reach) N.Utf16Text (grind N.arith))

pub returns-in-Binary-clause-succeeds : goal.returns-in-Binary-clause-succeeds
returns-in-Binary-clause-succeeds g c = search (N.rules, value_passes, returns-in-Binary-clause-cell g c)

pub returns-in-Wide-clause-succeeds : goal.returns-in-Wide-clause-succeeds
returns-in-Wide-clause-succeeds g c = search (N.rules, value_passes, returns-in-Wide-clause-cell g c)

pub returns-in_default-kind-clause-succeeds : goal.returns-in_default-kind-clause-succeeds
returns-in_default-kind-clause-succeeds g c = search (N.rules, value_passes)
