use Rattle.tds_cells.proofs as N
use N.{arith}

pub returns-clause-ahead : N.row_format.RowFormat.step.Goals.returns-clause-ahead
returns-clause-ahead c = λ columns knows ahead.
    elim c.if-cells-gt0.branch [
      | N.row_format.RowFormat.step.Goals.then-cells-gt0+then-at-self w ↦ (N.RowFormatSteps.after_walked knows ahead
          (omega (arith, N.ap (λ a. a.column) w.at-is)) (omega arith) w.if-at-self.true
          (grind arith))
      | N.row_format.RowFormat.step.Goals.else-cells-gt0 w ↦ (grind arith)
    ]
