use Rattle.tds_rows.proofs as N
use N.reading.row.Goals as goal
use N.{◌≡◌}
use Rattle.tds_cells.proofs.RowLaws.{row_is_read}

pub returns-clause-row : goal.returns-clause-row
returns-clause-row g c = λ _ _.
    let x = rw c.walked-row_format.ensures.charset at (c.row.ensures.row _ c.walked-row_format.ensures.knows) in
    let payload : c.row.new.self.payload.now ≡ c.payload-1.given.0 = search N.rules in
    let sink : c.row.new.self.sink.now ≡ c.sink-1.given.0 = search N.rules in
    rw (payload, sink) at x

pub returns-clause-succeeds : goal.returns-clause-succeeds
returns-clause-succeeds g c = λ going writing cells bytes more spelt.
    N.Successes.streaming_succeeds N.row_so_far (N.Paths.at_of g.R.Read.remaining g.W.Write.contents c.args.payload.now c.args.sink.now) _ _ _ _ _ _
    (returns-clause-row g c going writing) (row_is_read _ _ _ _ spelt) N.refl
