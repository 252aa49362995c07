use Rattle.tds_rows.proofs as N
use N.rows.Rows.row.Goals as goal
use N.NextSteps.{cell_read, stays, stays_on}
use Rattle.tds_cells.proofs.RowTexts.{none_ahead}
use Rattle.tds_cells.proofs.RowFormatSteps.{takes}

pub loop-format-init : goal.loop-format-init
loop-format-init g c = record {
  stays = stays c.requires;
  reads = λ columns knows. (
    c.start-at.ensures.ahead columns knows,
    rw c.start-at.ensures.first (record { cells = N.[]; counted = N.refl; path = N.Paths.path_none c.requires.sink.ready.2 }),
  );
}

pub returns-in_err-put_cell-clause-row : goal.returns-in_err-put_cell-clause-row
returns-in_err-put_cell-clause-row g c =
    let l = c.loop-format.invariant in
    rw (← l.stays.same.3) (λ columns knows.
    let reads = l.reads columns knows in
    let next = c.in-Some.ensures.taken columns knows reads.0 in
    let taken = takes next.0 c.in-Some.ensures.further next.1 in
    N.passed _ _ _ _ c.from_residual.ensures.1 (N.NullSteps.cell_stops (rw taken.next at reads.1) (cell_read _ _ _ _ knows taken c.in_err-put_cell.ensures)))

pub loop-format-preserved : goal.loop-format-preserved
loop-format-preserved g c =
    let l = c.loop-format.invariant in
    let done = c.in_ok-put_cell.ensures in
    record {
      stays = stays_on l.stays done.leaves;
      reads = rw done.leaves.same.3 (λ columns knows.
          let reads = l.reads columns knows in
          let next = c.in-Some.ensures.taken columns knows reads.0 in
          let taken = takes next.0 c.in-Some.ensures.further next.1 in
          let y = cell_read _ _ _ _ knows taken done in
          (taken.ahead, rw (N.sym taken.further) at (N.NullSteps.cell_reads (none_ahead _ _) (rw taken.next at reads.1) y)));
    }

pub returns-clause-row : goal.returns-clause-row
returns-clause-row g c = search (N.rules, N.NullSteps.row_ends)
