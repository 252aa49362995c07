use Rattle.tds_cells.proofs as N
use N.{arith, ◌-◌, ◌∙◌}
use N.run.formats.run_formats.Goals as goal

pub returns-then-run-eq0 : goal.returns-then-run-eq0
returns-then-run-eq0 c =
    let ends = c.write_fields-run.ensures.ends c.if-run-eq0.true in
    record { left = N.FormatSteps.first_less _ _ _ (omega arith) ends; run = grind arith }

pub returns : goal.returns
returns c =
    let run = c.write_fields-run in
    let end = c.write_line_end-made in
    let room = run.ensures.fields.room (omega arith) in
    let before = N.length-take-le (run.result.made - 1) run.new.to (omega (arith, room)) in
    let after = N.length-take-le end.result end.new.to (search arith) in
    let further = N.ap N.length end.ensures.text ∙ N.length-append (N.take (run.result.made - 1) run.new.to) (N.end_after c.is_last-last.result) in
    record {
      left = N.FormatSteps.first_less _ _ _ (omega arith) run.ensures.left;
      run = N.FormatSteps.fields_run _ _ (run.result.made - 1) _ (omega arith) (omega (arith, room)) run.ensures.fields (search (arith, N.rules)) (grind arith);
    }
