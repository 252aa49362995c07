use Rattle.tds_text.proofs as N

pub returns : N.beyond_ascii.pairs.Goals.returns
returns c =
    let long = c.fits-units.0 in
    simp (N.LaneMasks.lanes, N.Lookup.picked, N.Lookup.picked_self)
    (N.Lookup.pair_lanes _ long c.fits-units.1 (N.LaneMasks.same_map (grind N.arith) _ c.fits-units.1))
