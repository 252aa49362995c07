use Rattle.tds_cells.proofs as N
use N.{◌++◌, ◌+◌}
use N.run.formats.write_far_alone.Goals as goal

pub returns-in_err-written : goal.returns-in_err-written
returns-in_err-written = grind (N.arith, N.FormatSteps.front_kept, N.FormatSteps.left_less)

-- where the comma, the field and the end of the line stand
line_at : (c : goal.After-slice_known-4-1) → N.FormatSteps.StandsFrom c.args.at c.write_line_end-end.result c.args.to.now c.write_line_end-end.new.to
    ((N.take c.write_comma.result c.write_comma.new.to ++ N.take c.in_ok-written.written.made
    (N.drop (c.args.at + c.write_comma.result) c.write_far_cell.new.to))
    ++ N.end_after c.args.last)
line_at c = N.FormatSteps.line_beyond c.args.at _ _ _ _ _ _ _ _ _ (search N.arith) c.write_far_cell.ensures.kept c.write_line_end-end.ensures.text

pub overflow_sub-result : goal.overflow_sub-result
overflow_sub-result c = (line_at c).later

pub returns : goal.returns
returns c =
    let line = line_at c in
    grind (N.arith, N.common_steps)
