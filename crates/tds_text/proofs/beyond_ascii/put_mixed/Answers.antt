use Rattle.tds_text.proofs as N
use N.beyond_ascii.put_mixed.Goals as goal

pub returns-then-n-le-HALF-clause-most : goal.returns-then-n-le-HALF-clause-most
returns-then-n-le-HALF-clause-most c = (N.WideText.few_added _ _ c.fits-units c.requires.most c.requires.wide c.requires.long c.quads.ensures.0
    c.put_quads-middle.ensures (omega N.arith) (omega N.arith)).1

pub put_quads-requires-clause-wide : goal.put_quads-requires-clause-wide
put_quads-requires-clause-wide c = omega (N.arith, (N.LaneMasks.first_mask N.is_wide _ _ c.fits-units.0 c.requires.most c.requires.wide).0)

pub put_quads-requires-clause-long : goal.put_quads-requires-clause-long
put_quads-requires-clause-long c = omega (N.arith, (N.LaneMasks.first_mask N.is_long _ _ c.fits-units.0 c.requires.most c.requires.long).0)

pub returns-clause-most : goal.returns-clause-most
returns-clause-most c = (N.WideText.all_added _ _ c.fits-units c.requires.most c.requires.wide c.requires.long c.quads.ensures.0
    c.put_quads-middle.ensures (omega N.arith) (omega N.arith) c.quads.ensures.1 c.put_quads.ensures).1
