use Rattle.tds_text.proofs as N

pub returns : N.beyond_ascii.put_longs.Goals.returns
returns c = record {
  most = grind N.arith;
  written = grind N.arith;
  single = N.WideText.each_taken _ _ _ (N.LaneMasks.none_passes N.is_half _ (grind N.arith));
}
