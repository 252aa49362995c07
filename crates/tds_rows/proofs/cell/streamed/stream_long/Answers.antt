use Rattle.tds_rows.proofs as N
use N.{◌≡◌}

pub returns-clause-field : N.cell.streamed.stream_long.Goals.returns-clause-field
returns-clause-field g c = λ conversion suits.
    let payload : c.read.new.self.payload.now ≡ c.payload-1.given.0 = search N.rules in
    let sink : c.read.new.self.sink.now ≡ c.sink-1.given.0 = search N.rules in
    rw (payload, sink) at (c.read.ensures.field conversion suits)
