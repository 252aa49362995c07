use Rattle.tds_rows.proofs as N
use N.{◌∙◌}

pub returns-in-None-clause-cell : N.cell.gathered.gather_scalar.Goals.returns-in-None-clause-cell
returns-in-None-clause-cell g c = λ charset.
    rw (N.sym (N.CellSteps.scalar_start charset _ (search N.rules) (N.sym c.fixed_length.ensures ∙ c.in-None.is))) c.gather_counted.ensures.cell
