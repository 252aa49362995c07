use Rattle.tds_values.proofs as N
use N.write.write_date_time2.Goals as goal

pub returns-then-seconds-ge-SECONDS_A_DAY : goal.returns-then-seconds-ge-SECONDS_A_DAY
returns-then-seconds-ge-SECONDS_A_DAY c = grind (N.arith, N.WrittenLemmas.time_by_seconds c.args.scale)

pub returns : goal.returns
returns c = grind (N.arith, N.DigitLemmas.fraction_rest c.args.scale c.in_ok-units.units, N.WrittenLemmas.time_by_seconds c.args.scale c.in_ok-units.units)
