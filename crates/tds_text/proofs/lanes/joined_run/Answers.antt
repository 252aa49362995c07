use Rattle.tds_text.proofs as N
use N.{◌+◌, ◌∙◌}

pub returns : N.lanes.joined_run.Goals.returns
returns c =
    let d = c.args.bytes.now in
    let here = N.length-chunk c.args.at 16 d (omega N.arith) in
    let next = N.length-chunk (c.args.at + 1) 16 d (omega N.arith) in
    c.first_set.ensures ∙ simp (N.LaneMasks.lanes, N.LaneMasks.with_both, N.LaneMasks.side_by_side)
    (N.LaneMasks.run_of _ (λ p fits. N.LaneMasks.pair_stops p.0 p.1 fits.0.fits fits.1.fits) _
    (N.LaneMasks.pairs_long d _ c.requires) (omega N.arith) (N.LaneMasks.pairs_fit d _ c.requires c.type_inv.bytes))
