use Rattle.tds_text.proofs as N

pub returns : N.lanes_utf16.quotes_in.Goals.returns
returns c = let long = c.fits-bytes.0 in simp N.LaneMasks.lanes (N.LaneMasks.mask_of (grind N.arith) _ (omega N.arith) c.fits-bytes.1)
