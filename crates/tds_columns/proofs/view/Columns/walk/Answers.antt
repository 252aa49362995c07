use Rattle.tds_columns.proofs as N
use N.view.Columns.walk.Goals as goal
use N.{◌∙◌}
use N.ViewLaws.{all_after, length_columns}

pub invariant_of-result : goal.invariant_of-result
invariant_of-result c =
    record {
      whole = rw (c.count.ensures.value ∙ length_columns _ (N.drop 2 c.args.self.now.bytes.now), all_after _ 2) (N.and_parts _ _ c.args.self.now.whole).1;
    }

pub returns-clause-value : goal.returns-clause-value
returns-clause-value c = rw (all_after _ 2, c.count.ensures.value, length_columns)

pub returns-clause-columns : goal.returns-clause-columns
returns-clause-columns c = λ room columns h. rw (all_after _ 2, c.count.ensures.value, length_columns) (N.ViewLaws.description_shows _ _ _ h).0

pub returns-clause-bound : goal.returns-clause-bound
returns-clause-bound = grind (N.arith, length_columns)
