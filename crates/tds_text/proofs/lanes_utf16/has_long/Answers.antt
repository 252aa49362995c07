use Rattle.tds_text.proofs as N

pub returns : N.lanes_utf16.has_long.Goals.returns
returns c = λ none. N.Each1-weaker _ _ (grind N.arith) _ (N.LaneMasks.low_lanes 11 _ c.fits-units.0 (omega N.arith) c.fits-units.1 (grind N.arith))
