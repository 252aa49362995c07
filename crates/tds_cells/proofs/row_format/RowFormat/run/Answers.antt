use Rattle.tds_cells.proofs.row_format.RowFormat.run.Goals as goal

pub returns-in-Unmarked-clause-ends : goal.returns-in-Unmarked-clause-ends
returns-in-Unmarked-clause-ends c = rw c.in-Unmarked.is c.run_rows.ensures.ends

pub returns-in-Marked-clause-ends : goal.returns-in-Marked-clause-ends
returns-in-Marked-clause-ends c = rw (c.in-Marked.is, c.in_row.ensures) c.run_nbc.ensures.ends
