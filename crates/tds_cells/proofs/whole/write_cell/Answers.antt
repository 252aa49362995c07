use Rattle.tds_cells.proofs as N
use N.{arith, ◌+◌, ◌-◌, ◌≡◌}
use N.whole.write_cell.Goals as goal

pub returns-then-n-eq0-clause-cell : goal.returns-then-n-eq0-clause-cell
returns-then-n-eq0-clause-cell g c = (search (arith, N.rules), λ column last. N.RunSteps.writes_scalar (grind (arith, N.ValueCells.null_cell)))

pub returns-in-Ok-clause-cell : goal.returns-in-Ok-clause-cell
returns-in-Ok-clause-cell g c = (
  search (arith, N.rules),
  λ column last.
      let there : N.LaidOut.HasValueAt c.args.format.now.layout c.args.bytes.now c.match-format-3.start.0 c.match-format-3.start.1 =
      grind arith in
      let at = N.LaidOut.value_there _ _ _ _ _ _ c.requires.laid there in
      let start = c.match-format-3.start.0 in
      let after : (start + c.match-format-3.start.1) - start ≡ c.match-format-3.start.1 = omega arith in
      N.RunSteps.writes_scalar (grind (arith, N.ValueCells.value_cell)),
)

pub returns-in-Err : goal.returns-in-Err
returns-in-Err g c =
    let start = c.match-format-3.start.0 in
    let there : N.LaidOut.HasValueAt c.args.format.now.layout c.args.bytes.now start c.match-format-3.start.1 =
    grind arith in
    let at = N.LaidOut.value_there _ _ _ _ _ _ c.requires.laid there in
    let after : (start + c.match-format-3.start.1) - start ≡ c.match-format-3.start.1 = omega arith in
    grind (arith, N.common_steps)
