use Rattle.tds_text.proofs as N

pub returns : N.utf16.convert_some.Goals.returns
returns c = record {
  more = omega N.arith;
  after = N.WideText.units_more 8 c.requires.before.inside (omega N.arith) (omega N.arith) (omega N.arith) c.in-Some.ensures c.requires.before.before;
}
