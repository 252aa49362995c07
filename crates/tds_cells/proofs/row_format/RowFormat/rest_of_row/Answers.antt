use Rattle.tds_cells.proofs as N
use N.{◌-◌}

pub returns-clause-ahead : N.row_format.RowFormat.rest_of_row.Goals.returns-clause-ahead
returns-clause-ahead c =
    let row_format = c.args.self.now in
    λ walk. N.RowFormatRuns.known_ahead row_format (N.place walk c.args.column) row_format.count (row_format.known - c.args.column)
    (omega N.arith) (omega N.arith) (omega N.arith)
