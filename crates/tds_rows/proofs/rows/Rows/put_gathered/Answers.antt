use Rattle.tds_rows.proofs as N
use N.rows.Rows.put_gathered.Goals as goal
use N.{arith}
use Rattle.tds_cells.proofs.RunSteps.{scalar_whole}

pub returns-in_err-gather_scalar : goal.returns-in_err-gather_scalar
returns-in_err-gather_scalar g c = record {
  leaves = search arith;
  cell = rw c.requires.next.in_row.sink.writing (N.passed _ _ _ _ c.from_residual.ensures.1 (N.RowSteps.at_once_stalls _ _
      _ _ c.requires.next.in_row.sink.ready.2 (search N.rules)));
}

pub returns-in-Err-Refused : goal.returns-in-Err-Refused
returns-in-Err-Refused g c = record {
  leaves = search arith;
  cell = let x = rw (N.sym c.bytes-bytes.ensures.value) at (c.in_ok-gather_scalar.ensures.cell c.args.self.now.row_format.now.charset) in
      let left = rw c.in-Err-Refused.field-0-is at c.in-Err-Refused.ensures.left in
      rw (
        c.requires.next.in_row.sink.writing,
        c.refusal.ensures,
        c.in-Err-Refused.fault-is,
        c.place-place.ensures,
      ) (N.RowSteps.at_once_stalls _ _ _ _ c.requires.next.in_row.sink.ready.2 (x.refused _ left.2 left.3));
}

pub returns-in-Ok : goal.returns-in-Ok
returns-in-Ok g c = search (N.rules, N.take_all, scalar_whole, N.RunPuts.put_cell)
