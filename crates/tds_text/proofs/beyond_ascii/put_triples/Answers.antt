use Rattle.tds_text.proofs as N
use N.beyond_ascii.put_triples.Goals as goal

pub returns-then-n-le-HALF : goal.returns-then-n-le-HALF
returns-then-n-le-HALF = grind (N.arith, N.WideText.in_one_half)

pub returns : goal.returns
returns c = N.WideText.in_two_halves _ _ _ _ _ _ c.fits-units.1 c.requires.long c.triples.ensures.0 _ _ (omega N.arith) (omega N.arith)
    c.triples.ensures.1 c.put_lanes-2.ensures c.put_lanes-3.ensures
