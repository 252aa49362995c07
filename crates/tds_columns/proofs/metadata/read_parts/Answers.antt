use Rattle.tds_columns.proofs as N
use N.metadata.read_parts.Goals as goal

pub returns-clause-gives : goal.returns-clause-gives
returns-clause-gives g c = λ columns number.
    N.GatherSteps.part_after _ _ _ _ _ c.in_ok-read_type.ensures.leaves.room (c.in_ok-read_type.ensures.gives _ number).1 (grind N.arith)
