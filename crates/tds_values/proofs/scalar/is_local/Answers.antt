use Rattle.tds_values.proofs as N

pub returns : N.scalar.is_local.Goals.returns
returns = grind (N.arith, N.LocalLemmas.local_by_seconds)
