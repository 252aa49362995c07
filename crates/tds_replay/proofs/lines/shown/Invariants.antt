use Rattle.tds_replay.proofs.Words as N
use N.{◌≡◌}

abbrev pub invariant-bytes : Rattle.tds_replay.proofs.lines.shown.Given.invariant-bytes
invariant-bytes l = l.text.items ≡ N.map N.shown_byte (N.take l.byte-index l.message)
