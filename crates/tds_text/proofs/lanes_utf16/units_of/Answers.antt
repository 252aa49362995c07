use Rattle.tds_text.proofs as N

pub returns : N.lanes_utf16.units_of.Goals.returns
returns c = N.Lookup.units_of_bytes 8 _ (omega N.arith) c.fits-bytes.1
