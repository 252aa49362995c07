use Rattle.tds_text.proofs as N

pub returns : N.lanes_utf16.wide_units.Goals.returns
returns c = let long = c.fits-units.0 in simp N.LaneMasks.lanes (N.LaneMasks.mask_of (grind N.arith) _ (omega N.arith) c.fits-units.1)
