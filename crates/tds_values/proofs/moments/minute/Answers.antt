use Rattle.tds_values.proofs as N

pub returns : N.moments.minute.Goals.returns
returns = grind (N.arith, N.TableLemmas.minute_at)
