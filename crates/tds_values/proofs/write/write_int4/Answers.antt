use Rattle.tds_values.proofs as N

pub returns-clause-most : N.write.write_int4.Goals.returns-clause-most
returns-clause-most c = N.TextLengths.length-int4 _ _ _ c.put_integer.ensures.written (search (N.arith, N.rules)) (grind N.arith)
