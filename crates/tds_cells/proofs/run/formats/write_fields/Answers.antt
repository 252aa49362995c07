use Rattle.tds_cells.proofs as N
use N.{arith, rules, ◌-◌, ◌∙◌, ◌≡◌}
use N.run.formats.write_fields.Goals as goal
use N.run.formats.write_fields.Goals.{then-loop-cells-test+else-made-most, else-loop-cells-test, then-loop-cells-test+then-made-most+in_default as left}

pub loop-cells-preserved : goal.loop-cells-preserved
loop-cells-preserved c =
    let l = c.loop-cells in
    let written = c.in-Ok.written in
    let format = c.index-formats-cells.result in
    let bytes = c.args.bytes.now in
    let rest = l.rest.now in
    let new = c.write_cell.new.to in
    let format_is : format ≡ N.get_or c.args.formats.now l.cells format = search arith in
    let now = N.all_after bytes (N.length bytes - N.length rest) ∙ N.sym l.invariant.rest in
    let cell = rw format_is at (rw (N.sym now) at c.in-Ok.ensures.cell) in
    let left = N.FormatSteps.left_after bytes rest written.used l.invariant.within l.invariant.rest (search (arith, rules)) in
    record {
      within = omega arith;
      rest = grind arith;
      fields = N.FormatSteps.fields_more written.used written.made format new _ l.invariant.fields c.loop-cells-test.true (search (arith, rules))
          (search (arith, rules))
          N.refl left.0 N.refl (N.FormatSteps.comma_put l.made written.made l.to new _ (search (arith, rules)) (search (arith, rules)))
          cell.0.whole cell.1;
    }

pub returns-clause-ends : goal.returns-clause-ends
returns-clause-ends c = λ none format rest is.
    let begun = N.FormatSteps.comma_alone c.loop-cells.invariant.fields none in
    grind (arith, N.FormatSteps.left_less)
