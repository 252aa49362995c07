use Rattle.tds_rows.proofs as N
use N.reading.rows_in.Goals as goal

pub returns-clause-rows : goal.returns-clause-rows
returns-clause-rows g c = search N.rules
