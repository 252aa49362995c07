use Rattle.tds_cells.proofs as N

pub returns : N.nulls.nulls_ahead.Goals.returns
returns = grind (N.arith, N.Bits.ones_before)
