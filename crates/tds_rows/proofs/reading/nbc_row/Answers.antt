use Rattle.tds_rows.proofs as N
use N.reading.nbc_row.Goals as goal
use N.{◌≡◌}
use Rattle.tds_cells.proofs.RowLaws.{nbc_row_is_read, some_bitmap}

pub returns-in_err-row_by-clause-row : goal.returns-in_err-row_by-clause-row
returns-in_err-row_by-clause-row g c = λ _ _.
    let x = rw c.walked-row_format.ensures.charset at (c.in_err-row_by.ensures.rows _ c.walked-row_format.ensures.knows).1 in
    let payload : c.row_by.new.self.payload.now ≡ c.payload-1.given.0 = search N.rules in
    let sink : c.row_by.new.self.sink.now ≡ c.sink-1.given.0 = search N.rules in
    N.passed _ _ _ _ c.from_residual.ensures.1 (rw (payload, sink) at x)

pub returns-in_err-row_by-clause-succeeds : goal.returns-in_err-row_by-clause-succeeds
returns-in_err-row_by-clause-succeeds g c = λ going writing cells bytes more spelt.
    N.Successes.streaming_succeeds N.row_so_far (N.Paths.at_of g.R.Read.remaining g.W.Write.contents c.args.payload.now c.args.sink.now) _ _ _ _ _ _
    (returns-in_err-row_by-clause-row g c going writing) (nbc_row_is_read _ _ cells bytes (some_bitmap _ c.args.columns.some) spelt) N.refl
