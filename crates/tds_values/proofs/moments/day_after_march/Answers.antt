use Rattle.tds_values.proofs as N

pub returns : N.moments.day_after_march.Goals.returns
returns = grind (N.arith, N.TableLemmas.day_at)
