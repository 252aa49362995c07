use Rattle.tds_replay.proofs.Words as N

abbrev pub invariant-pieces : Rattle.tds_replay.proofs.pieces.gather_all.Given.invariant-pieces
invariant-pieces g l =
    N.AddsText g.W.Write.contents l.initial.notes l.notes l.initial.gathered.items l.gathered.items (N.text_of (N.take l.piece-index l.pieces))
