use Rattle.tds_rows.proofs as N
use N.cell.streamed.LongValue.push_piece.Goals as goal

pub returns-in_err-piece-clause-piece : goal.returns-in_err-piece-clause-piece
returns-in_err-piece-clause-piece g c = λ conversion content suits is begun.
    let k = N.at_err _ _ _ _ c.in_err-piece.was c.piece.follows.holds-at-none.2 in
    let there = N.stops_here g.R.Read.remaining c.args.self.now.payload.now (N.seen g.R.Read.remaining c.piece.follows.lender-at-none) _
    c.requires.joining.payload.going k.0 in
    N.passed _ _ _ _ c.from_residual.ensures.1 (search N.rules)

pub returns-in-Ok-clause-piece : goal.returns-in-Ok-clause-piece
returns-in-Ok-clause-piece g c = λ conversion content suits is begun.
    let k = N.at_ok _ _ _ _ c.in_ok-piece.was c.piece.follows.holds-at-none.2 in
    N.JoinedPieces.piece_taken suits _ is begun c.in_ok-piece.ensures.len.0 k.0 k.1 k.2 c.in-Ok.ensures.gives

pub returns-in-Err-clause-piece : goal.returns-in-Err-clause-piece
returns-in-Err-clause-piece g c = λ conversion content suits is begun.
    let k = N.at_ok _ _ _ _ c.in_ok-piece.was c.piece.follows.holds-at-none.2 in
    rw (c.join_stop.ensures, c.place-place.ensures) (N.JoinedPieces.push_stops suits _ is begun _ _ _
    (omega (N.arith, c.in_ok-piece.ensures.len.1)) k.0 k.1 c.requires.joining.begun c.requires.joining.sink.writing
    c.in-Err.ensures.failed c.in-Err.ensures.gives)

pub returns-in_err-piece-clause-blames : goal.returns-in_err-piece-clause-blames
returns-in_err-piece-clause-blames g c =
    let k = N.at_err _ _ _ _ c.in_err-piece.was c.piece.follows.holds-at-none.2 in
    N.passed _ _ _ _ c.from_residual.ensures.1 (N.Numbers.read_stops _ _ c.in_err-piece.field-0.0
    (N.ends_blame g.R.Read.remaining c.args.self.now.payload.now (N.seen g.R.Read.remaining c.piece.follows.lender-at-none) _ _ c.requires.joining.payload.going
    k.0))
