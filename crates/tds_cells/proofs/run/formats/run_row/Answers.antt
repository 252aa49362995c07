use Rattle.tds_cells.proofs as N
use N.{arith, ◌++◌, ◌-◌, ◌∙◌, ◌≡◌, ◌≤◌}
use N.run.formats.run_row.Goals as goal

pub overflow_sub-run : goal.overflow_sub-run
overflow_sub-run g c =
    let x = c.write_numbers-run.ensures.fields N.Windows1252 in
    omega (arith, (x.room (omega arith)).0)

pub write_line_end-made-requires : goal.write_line_end-made-requires
write_line_end-made-requires g c =
    let run = c.write_numbers-run in
    let x = run.ensures.fields N.Windows1252 in
    omega (arith, x.room (omega arith), run.auto.to, N.length-drop c.args.from.made run.new.to)

-- where the run ends
ended : (g : N.run.formats.run_row.Given.Over) (c : goal.After-slice_known-3-1 g)
    → let from = c.args.from.made in
    let run = c.write_numbers-run in
    let end = c.write_line_end-made in
    (end.result ≤ N.length end.new.to) × N.FormatSteps.StandsFrom from end.result run.new.to end.new.to
    (N.take ((run.result.made - 1) - from) (N.drop from run.new.to) ++ N.end_after N.true)
ended g c =
    let run = c.write_numbers-run in
    let end = c.write_line_end-made in
    let room = (run.ensures.fields N.Windows1252).room (omega arith) in
    let fits : end.result ≤ N.length end.new.to = omega (arith, room, end.ensures.most, end.auto.to, N.length-drop c.args.from.made run.new.to) in (
      fits,
      N.FormatSteps.stands c.args.from.made (run.result.made - 1) end.result run.new.to end.new.to _ (omega arith)
          (omega (arith, room, N.length-drop c.args.from.made run.new.to)) fits
          end.ensures.text,
    )

pub returns : goal.returns
returns g c =
    let run = c.write_numbers-run in
    let wrote = run.ensures.fields in
    let all : run.result.cells ≡ N.length c.args.formats.now = omega (arith, (wrote N.Windows1252).within.cells, c.if-run-formats.false) in
    let x = ended g c in
    record {
      kept = x.1.kept ∙ run.ensures.kept;
      refused = tt;
      within = grind arith;
      row = (
        all,
        λ charset. N.FormatSteps.fields_run _ _ ((run.result.made - 1) - c.args.from.made) _ (omega arith)
            (omega (arith, (wrote charset).room (omega arith))) (wrote charset) (omega arith) (grind (arith, N.eq-eqb)),
      );
    }

pub returns-then-run-formats-clause-refused : goal.returns-then-run-formats-clause-refused
returns-then-run-formats-clause-refused g c =
    let run = c.write_numbers-run in
    record {
      run = N.run_since c.args.from run.result;
      few = c.if-run-formats.true;
      fields = λ charset. let x = run.ensures.fields charset in (x.fields, x.writes);
      next = grind arith;
    }
