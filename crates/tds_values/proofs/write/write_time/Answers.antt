use Rattle.tds_values.proofs as N

pub returns : N.write.write_time.Goals.returns
returns c = grind (N.arith, N.DigitLemmas.fraction_rest c.args.scale c.in_ok-units.units, N.WrittenLemmas.time_by_seconds c.args.scale c.in_ok-units.units)
