use Rattle.tds_text.proofs as N

pub returns-clause-zeros : N.lanes_utf16.first_units.Goals.returns-clause-zeros
returns-clause-zeros c = (N.LaneMasks.first_of _ _ c.fits-units.0 c.requires c.fits-units.1 c.first_bits.ensures).1
