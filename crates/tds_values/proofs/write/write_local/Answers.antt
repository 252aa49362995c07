use Rattle.tds_values.proofs as N
use N.write.write_local.Goals as goal

pub returns-in_default : goal.returns-in_default
returns-in_default c = grind (N.arith, N.LocalLemmas.local_by_seconds)

pub returns : goal.returns
returns c =
    grind (N.arith, N.to_z-of_z, N.LocalLemmas.local_by_seconds, N.WrittenLemmas.local_spelt, (N.WrittenLemmas.time_by_seconds c.args.scale c.args.units))
