use Rattle.tds_values.proofs as N

pub returns-then-scale-le7 : N.ranges.is_time.Goals.returns-then-scale-le7
returns-then-scale-le7 = grind (N.arith, N.WrittenLemmas.time_by_seconds)
