use Rattle.tds_text.proofs as N

pub loop-at-preserved : N.windows_1252.convert_rest.Goals.loop-at-preserved
loop-at-preserved c = record {
  from = omega N.arith;
  within = omega N.arith;
  long = search N.rules;
  room = omega N.arith;
  text = N.Singles.one_taken N.SingleLaws.windows_1252_bytewise _ _ (search N.arith) c.put_text-made.ensures.written
      (N.Singles.itself_taken N.SingleLaws.windows_1252_bytewise _ _ _ c.take_plain-n.ensures.taken
      (N.Singles.plain_text _ c.take_plain-n.ensures.plain) c.loop-at.invariant.text);
}
