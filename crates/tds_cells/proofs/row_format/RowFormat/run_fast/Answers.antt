use Rattle.tds_cells.proofs as N
use N.row_format.RowFormat.run_fast.Goals as goal

pub returns-then-column-ne0-clause-rows : goal.returns-then-column-ne0-clause-rows
returns-then-column-ne0-clause-rows g c = rw c.none-run.ensures N.RowFormatRuns.known_begin
