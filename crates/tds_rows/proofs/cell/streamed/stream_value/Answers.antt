use Rattle.tds_rows.proofs as N

pub returns-clause-succeeds : N.cell.streamed.stream_value.Goals.returns-clause-succeeds
returns-clause-succeeds g c = λ going writing conversion suits kind value bytes more spelt.
    N.Successes.streaming_succeeds _ (N.Paths.at_of g.R.Read.remaining g.W.Write.contents c.args.payload.now c.args.sink.now) _ _ _ _ _ _
    (c.stream_long.ensures.field conversion suits) (N.Successes.long_is_read _ kind _ _ _ _ spelt) N.refl
