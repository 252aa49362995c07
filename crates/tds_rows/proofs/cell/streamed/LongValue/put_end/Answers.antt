use Rattle.tds_rows.proofs as N
use N.cell.streamed.LongValue.put_end.Goals as goal

pub returns-in-Ok-clause-end : goal.returns-in-Ok-clause-end
returns-in-Ok-clause-end g c = λ conversion content suits is begun.
    let x = N.JoinedPieces.end_whole suits _ is begun c.in-Ok.ensures.gives in
    N.JoinedPieces.end_puts _ _ _ _ _ _ c.args.self.now.sink.now x c.in-Ok.ensures.failed
    (rw c.QUOTED.ensures at c.put_closing.ensures)

pub returns-in-Err-clause-end : goal.returns-in-Err-clause-end
returns-in-Err-clause-end g c = λ conversion content suits is begun.
    rw c.join_stop.ensures (N.JoinedPieces.end_stops suits _ is begun _ _ _ _ c.requires.writing c.in-Err.ensures.failed c.in-Err.ensures.gives)
