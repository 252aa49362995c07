use Rattle.tds_cells.proofs as N

pub returns-clause-field : N.whole.write_int4_at.Goals.returns-clause-field
returns-clause-field c = λ charset column last.
    let x = N.answered _ (N.Ok c.write_int4-made.result) _ c.write_int4-made.ensures.text in
    N.RunSteps.writes_scalar (grind (N.arith, N.ValueCells.value_cell))
