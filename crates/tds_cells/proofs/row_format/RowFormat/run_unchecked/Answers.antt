use Rattle.tds_cells.proofs as N
use N.{[], arith, length, rules, ◌+◌, ◌-◌, ◌∙◌, ◌≡◌, ◌≤◌}
use N.row_format.RowFormat.run_unchecked.Goals as goal
use Rattle.tds_cells.proofs.row_format.RowFormat.run_unchecked.Goals.{In-Some}
use N.FarRuns.{NextIs, comma_size, far_comma, far_left, far_line, far_row, row_length}

pub returns-then-cells-formats-clause-rows : goal.returns-then-cells-formats-clause-rows
returns-then-cells-formats-clause-rows c = rw c.none-run.ensures N.RowFormatRuns.known_begin

pub loop-rest-init : goal.loop-rest-init
loop-rest-init c =
    let row = row_length c.args.self.now c.requires.all c.row-formats.ensures.row in
    record { size = search arith; at = N.FarRuns.far_begin _ _ (omega arith) (search (arith, rules)) (c.write_comma-made.ensures.text N.[]) }

-- the format of the next cell
next_is : (c : In-Some) → NextIs c.args.self.now c.row-formats.result.now c.loop-rest.cells c.index-formats-cells.result
next_is = grind (arith, N.common_steps, N.all_after)

pub loop-rest-preserved-then-cells-formats-2 : goal.loop-rest-preserved-then-cells-formats-2
loop-rest-preserved-then-cells-formats-2 c =
    let cell = c.in-Some.ensures.cell in
    let size : length c.write_far_cell.new.to ≡ length c.loop-rest.to = search (arith, rules) in
    record {
      size = search (arith, rules);
      at = far_comma c.loop-rest.invariant.at (next_is (goal.at.loop-rest-preserved-then-cells-formats-2 c).In-Some) _ _ _ c.write_far_cell.ensures.kept
          (cell.0.whole, cell.0.used) cell.1 (omega arith) (omega arith);
    }

pub returns-then-not-row_follows-clause-rows : goal.returns-then-not-row_follows-clause-rows
returns-then-not-row_follows-clause-rows c =
    let cell = c.in-Some.ensures.cell in
    rw c.ended-run-then-not-row_follows.ensures (far_line c.loop-rest.invariant.at (next_is (goal.at.returns-then-not-row_follows-clause-rows c).In-Some)
    _ _ _ c.write_far_cell.ensures.kept (cell.0.whole, cell.0.used) cell.1 (omega arith) (search (arith, rules)) c.write_line_end-made.ensures.text)

pub loop-rest-preserved : goal.loop-rest-preserved
loop-rest-preserved c =
    let cell = c.in-Some.ensures.cell in
    record {
      size = search (arith, rules);
      at = far_row c.loop-rest.invariant.at (next_is (goal.at.loop-rest-preserved c).In-Some) _ _ _ c.write_far_cell.ensures.kept
          (cell.0.whole, cell.0.used) cell.1 (omega arith) c.requires.some (search (arith, rules)) c.write_line_end-made.ensures.text
          (c.row_follows.ensures.begins (search rules));
    }

pub returns-in_default-clause-rows : goal.returns-in_default-clause-rows
returns-in_default-clause-rows c =
    let l = c.loop-rest in
    let at = l.made - comma_size l.cells in
    let new = c.write_far_cell.new.to in
    rw (c.ended-run.ensures, c.comma_size.ensures) (N.RowFormatRuns.known_kept (search arith)
    (N.sym (N.take-take at l.made new (omega arith)) ∙ N.ap (N.take at) c.write_far_cell.ensures.kept ∙ N.take-take at l.made l.to (omega arith))
    l.invariant.at.ran)

pub returns-in_default-clause-left : goal.returns-in_default-clause-left
returns-in_default-clause-left c =
    let l = c.loop-rest in
    let next : NextIs c.args.self.now c.row-formats.result.now l.cells c.index-formats-cells.result =
    record { all = c.requires.all; row_is = c.row-formats.ensures.row; is = search arith } in
    let less : length c.args.to.now - (l.made - comma_size l.cells) ≤ length l.to - l.made + 1 = grind arith in
    record {
      within = λ _. rw c.ended-run.ensures l.invariant.at.some;
      ends = λ _ walk. rw (c.ended-run.ensures, c.comma_size.ensures) (far_left l.invariant.at next less (grind arith) walk);
    }
