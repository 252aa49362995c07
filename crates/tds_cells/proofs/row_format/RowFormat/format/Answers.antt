use Rattle.tds_cells.proofs as N

pub returns-then-at-self : N.row_format.RowFormat.format.Goals.returns-then-at-self
returns-then-at-self = grind (N.arith, N.RowFormatSteps.next_known)
