use Rattle.tds_text.proofs as N

pub returns : N.lanes_utf16.all_low_bytes.Goals.returns
returns c = N.WideText.evens_at 16 _ (grind (N.arith, N.length-append, c.fits-first.0, c.fits-second.0))
