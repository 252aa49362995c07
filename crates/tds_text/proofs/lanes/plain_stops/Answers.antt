use Rattle.tds_text.proofs as N

pub returns : N.lanes.plain_stops.Goals.returns
returns g c =
    let there = N.length-chunk _ g.row.N _ c.requires.there in
    simp N.LaneMasks.lanes (N.LaneMasks.run_of _ (grind N.arith) _ there c.requires.few (N.chunk-fits N.w8 _ _ _ c.type_inv.bytes))
