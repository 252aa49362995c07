use Rattle.tds_cells.proofs as N

pub returns-clause-next : N.row_format.RowFormat.known_format.Goals.returns-clause-next
returns-clause-next = grind (N.arith, N.RowFormatSteps.next_known)
