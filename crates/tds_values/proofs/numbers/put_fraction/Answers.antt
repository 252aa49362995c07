use Rattle.tds_values.proofs as N

pub put_tail-requires-clause-small : N.numbers.put_fraction.Goals.put_tail-requires-clause-small
put_tail-requires-clause-small = grind (N.arith, N.pow-le-pow_right)
