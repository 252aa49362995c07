use Rattle.tds_replay.proofs.Words as N
use Rattle.tds_replay.proofs.Sayings.{adds_none, on_err}
use N.{◌≡◌, ◌∙◌, []}

pub returns : Rattle.tds_replay.proofs.pieces.gather.Goals.returns
returns g c =
    let old = c.args.gathered.now in
    let again = c.try_extend_from_slice-2 in
    let same : c.try_extend_from_slice.new.self ≡ old =
    on_err c.try_extend_from_slice.result (N.sym c.if-is_ok.ensures.value) c.try_extend_from_slice.ensures.err in
    let empty : again.new.self.items ≡ [] =
    N.ap (λ gathered. gathered.items) (on_err again.result (N.sym c.if-is_ok-2.ensures.value) again.ensures.err) ∙ c.clear.ensures in
    let wrote : N.WritesText g.W.Write.contents c.args.notes.now c.put.new.notes old.items = rw (c.as_slice.ensures.value, same) at c.in_ok-put.ensures in
    adds_none g.W.Write.contents c.args.notes.now c.put.new.notes c.put-2.new.notes old.items again.new.self.items c.args.bytes.now empty wrote
    c.put-2.result c.put-2.ensures
