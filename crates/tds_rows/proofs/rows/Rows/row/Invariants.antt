use Rattle.tds_rows.proofs as N
use N.rows.Rows.row.Given as goal
use N.{◌-◌}
use Rattle.tds_cells.proofs.RowTexts.{coming}

abbrev pub invariant-loop-format : goal.invariant-loop-format
invariant-loop-format g l = record {
  stays : N.NextSteps.StaysInRow l.initial.self l.self;
  reads : (columns : N.List N.Column) → N.Knows l.self.row_format.now columns → N.IsCursor l.self.row_format.now columns l.at
      × N.NullSteps.Reads l.self.row_format.now.charset (N.row_start N.PlainRow l.self.row_format.now.charset columns)
      (coming (N.drop l.at.column columns) l.at.column)
      (N.Paths.here g.R.Read.remaining g.W.Write.contents l.initial.self) (N.Paths.here g.R.Read.remaining g.W.Write.contents l.self) l.at.column;
}

abbrev pub decreases-loop-format : goal.decreases-loop-format
decreases-loop-format g l = l.self.row_format.now.count - l.at.column
