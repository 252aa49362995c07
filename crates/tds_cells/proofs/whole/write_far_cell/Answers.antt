use Rattle.tds_cells.proofs as N
use N.{arith, rules, ◌∙◌}

pub returns-clause-cell : N.whole.write_far_cell.Goals.returns-clause-cell
returns-clause-cell g c = (
  grind (arith, N.common_steps),
  λ column last.
      let x = rw (N.all_after c.args.bytes.now c.args.from) at c.in-Some.ensures.text in
      let bytes = N.drop c.args.from c.args.bytes.now in
      let text = N.FormatSteps.beyond_kept c.args.at c.in-Some.front.made c.args.to.now c.write_front.new.to _ (search (arith, rules))
      (search (arith, rules)) in
      N.RunSteps.writes_scalar (λ any. N.ValueCells.front_cell any _ column last bytes _ (search (arith, rules)) _ (search (arith, rules)) x.0
      (omega (arith, c.in-Some.ensures.within, c.requires.far, N.length-drop c.args.from c.args.bytes.now))
      (x.1.0, x.1.1.0, N.ap (N.in_line column last) (text ∙ x.1.1.1.0))),
)
