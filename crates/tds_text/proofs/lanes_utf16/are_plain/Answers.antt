use Rattle.tds_text.proofs as N

pub returns : N.lanes_utf16.are_plain.Goals.returns
returns c = λ plain.
    let us = c.args.units in
    let long = c.fits-units.0 in
    N.LaneMasks.each_both (grind N.arith) us (N.LaneMasks.low_lanes 7 us long (omega N.arith) c.fits-units.1 c.if-units-ne0.false)
    (N.LaneMasks.none_passes (λ u. N.eqb u 34) us (grind (N.arith, N.bitmask_splat N.w16 N.eqb us 8 34 long (omega N.arith))))
