use Rattle.tds_text.proofs as N
use N.beyond_ascii.put_quads.Goals as goal

pub gathered-requires-clause-places : goal.gathered-requires-clause-places
gathered-requires-clause-places c = rw c.quad_places.ensures (N.Lookup.quad_row _ _ c.requires.wide c.requires.long).small

pub returns : goal.returns
returns c = record {
  adds = λ units more long is wide_is long_is range. (
    cc (
      c.put_lanes.ensures,
      c.gathered.ensures,
      c.quad_places.ensures,
      (rw long at (N.WideText.quads_taken units more (omega (N.arith, long)) c.requires.wide c.requires.long is wide_is long_is range)),
    ),
    omega (
      N.arith,
      long,
      (N.Lookup.ones_of_two _ _ c.requires.wide c.requires.long).0,
      N.LaneMasks.few_ones N.is_wide units wide_is,
      N.LaneMasks.few_ones N.is_long units long_is,
    ),
  );
}
