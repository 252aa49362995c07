use Rattle.tds_replay.proofs.Words as N
use Rattle.tds_replay.proofs.Sayings.{gathers_then}
use Rattle.tds_replay.proofs.pieces.gather_piece.Goals as goal

pub returns-in_ok-gather-in-Number : goal.returns-in_ok-gather-in-Number
returns-in_ok-gather-in-Number g c =
    let next = c.gather-in-Number-2 in
    rw (c.in-Number.is, ← c.format.ensures.text, ← c.as_bytes.ensures.value)
    (gathers_then next.new.notes next.new.gathered.items c.as_bytes.result.now c.in_ok-gather-in-Number.ensures next.result next.ensures)

pub returns-in_ok-gather-in-Signed : goal.returns-in_ok-gather-in-Signed
returns-in_ok-gather-in-Signed g c =
    let next = c.gather-in-Signed-2 in
    let fits : N.SFits N.w32 c.in-Signed.n = search N.rules in
    rw (c.in-Signed.is, ← N.to_z-of_z N.w32 c.in-Signed.n fits, ← c.format-in-Signed.ensures.text, ← c.as_bytes-in-Signed.ensures.value)
    (gathers_then next.new.notes next.new.gathered.items c.as_bytes-in-Signed.result.now c.in_ok-gather-in-Signed.ensures next.result next.ensures)

pub returns-in_ok-gather-in-Byte : goal.returns-in_ok-gather-in-Byte
returns-in_ok-gather-in-Byte g c =
    let next = c.gather_byte in
    rw c.in-Byte.is (gathers_then next.new.notes next.new.gathered.items (N.byte_text c.in-Byte.byte) c.in_ok-gather-in-Byte.ensures next.result next.ensures)
