use Rattle.tds_text.proofs as N
use N.LaneMasks.{lanes, same_map}

pub returns : N.beyond_ascii.triples.Goals.returns
returns c =
    let long = c.fits-units.0 in
    let fits = c.fits-units.1 in
    simp lanes (N.Lookup.three_each _ _ _ long fits (same_map (grind N.arith) _ fits) (same_map (grind N.arith) _ fits))
