use Rattle.tds_cells.proofs as N
use N.{arith, ◌+◌, ◌≡◌}
use N.whole.write_int4_cell.Goals as goal

pub returns-clause-cell : goal.returns-clause-cell
returns-clause-cell g c = λ charset. (
  search (arith, N.rules),
  λ column last.
      let bytes = c.args.bytes.now in
      elim c.match-n.branch [
        | goal.in-4 w ↦ (let four : 1 + N.slice_index bytes 0 ≡ w.write_int4_at-in-4.result.used = omega arith in
            rw (w.to-is, w.made-is, four) (w.write_int4_at-in-4.ensures.field charset column last))
        | goal.in-0 w ↦ (grind (arith, N.RunSteps.writes_scalar, N.ValueCells.null_cell))
      ],
)

pub returns-then-not-comes_counted-clause-cell : goal.returns-then-not-comes_counted-clause-cell
returns-then-not-comes_counted-clause-cell g c = λ charset. (search arith, c.write_int4_at.ensures.field charset)
