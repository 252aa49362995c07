use Rattle.tds_values.proofs as N

pub swizzle : N.lanes.digits.Goals.swizzle
swizzle c = N.SwzOk-from_below N.w8 16 1 16 0 _ N.refl (omega N.arith) c.requires.small

pub returns : N.lanes.digits.Goals.returns
returns c = N.LaneLemmas.looked_up 0 _ (omega N.arith) c.requires.small
