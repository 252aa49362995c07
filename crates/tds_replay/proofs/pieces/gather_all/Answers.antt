use Rattle.tds_replay.proofs.Words as N
use Rattle.tds_replay.proofs.Sayings.{fails_before, gathers_none, gathers_then, text_of-around, text_of-more}
use Rattle.tds_replay.proofs.pieces.gather_all.Goals as goal
use N.{◌+◌}

pub pieces-preserved : goal.pieces-preserved
pieces-preserved g c =
    rw (text_of-more c.args.pieces.now c.pieces.piece-index _ c.pieces-test.true) at
    (gathers_then {U = Unit {0}} _ _ _ c.pieces.invariant (N.Ok tt) c.in_ok-gather_piece.ensures)

pub returns-in_err-gather_piece : goal.returns-in_err-gather_piece
returns-in_err-gather_piece g c =
    let pieces = c.args.pieces.now in
    let i = c.pieces.piece-index in
    gathers_none _ _ _ c.from_residual.result c.from_residual.ensures.1 (rw (text_of-around pieces i _ c.pieces-test.true) at
    (fails_before c.pieces.invariant _ (N.text_of (N.drop (i + 1) pieces)) c.in_err-gather_piece.ensures))
