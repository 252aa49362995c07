use Rattle.tds_columns.proofs as N
use N.element.read_into.Goals as goal
use N.{◌∙◌, arith}
use N.ElementSteps.{shrunk}

pub returns-in-Ok-fill-clause-gives : goal.returns-in-Ok-fill-clause-gives
returns-in-Ok-fill-clause-gives = grind (arith, N.grown)

pub returns-in-Err-clause-gives : goal.returns-in-Err-clause-gives
returns-in-Err-clause-gives g c = λ going. let back = shrunk _ _ (N.grown _ _ c.fill.new.to c.fill.auto.to) (c.fill.auto.to
    ∙ c.grow_within-lent.ensures.value) c.len-start.ensures.value c.truncate.ensures in
    let part = c.in-Err.ensures.part going in
    record {
      part = N.take part.0 c.fill.new.to;
      fewer = omega (arith, (N.length-take-le part.0 c.fill.new.to (omega arith)));
      own = part.1;
      ends = part.3;
      stop_is = part.4;
      stands = back.0;
      peak = omega arith;
    }
