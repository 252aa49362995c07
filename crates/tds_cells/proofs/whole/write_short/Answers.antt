use Rattle.tds_cells.proofs as N
use N.whole.write_short.Goals as goal

pub returns-then-n : goal.returns-then-n
returns-then-n = grind (N.arith, N.common_steps, N.ShortCells.short_null)

pub returns : goal.returns
returns = grind (N.arith, N.common_steps, N.ShortCells.short_value)
