use Rattle.tds_text.proofs as N
use N.beyond_ascii.put_pairs.Goals as goal

pub pair_places-requires : goal.pair_places-requires
pair_places-requires c = (N.LaneMasks.first_mask N.is_wide _ _ c.fits-units.0 c.requires.most c.requires.wide).0

pub gathered-requires-clause-places : goal.gathered-requires-clause-places
gathered-requires-clause-places c =
    rw c.pair_places.ensures (N.Lookup.pair_row _ (N.LaneMasks.first_mask N.is_wide _ _ c.fits-units.0 c.requires.most c.requires.wide).0).small

pub returns-clause-written : goal.returns-clause-written
returns-clause-written c =
    cc ((N.WideText.pairs_taken _ _ c.fits-units.0 c.requires.most c.fits-units.1 c.pairs.ensures c.requires.wide c.requires.short))
