use Rattle.tds_rows.proofs as N
use N.CellSteps.{fixed_ahead, value_taken}

pub returns-clause-cell : N.cell.gathered.gather_fixed.Goals.returns-clause-cell
returns-clause-cell g c =
    value_taken (fixed_ahead _ _ c.requires.fixed) _ _ _ _ (N.Takes-none _ 0) _ _ _ c.requires.small.0 (omega N.arith) c.requires.going.going
    c.read_into.ensures.place c.read_into.ensures.gives
