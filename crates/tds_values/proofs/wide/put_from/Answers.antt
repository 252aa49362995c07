use Rattle.tds_values.proofs as N

pub returns-clause-written : N.wide.put_from.Goals.returns-clause-written
returns-clause-written = grind (N.arith, N.WideDigits.digits_from, N.length-take-le)
