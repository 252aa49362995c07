use Rattle.tds_text.proofs as N

pub swizzle : N.beyond_ascii.gathered.Goals.swizzle
swizzle c = N.SwzOk-from_below N.w8 16 1 16 0 _ N.refl (omega N.arith) c.requires.places
