use Rattle.tds_values.proofs as N
use N.reference_text.push_date_time_offset.Goals as goal

pub unreachable-requires : goal.unreachable-requires
unreachable-requires c = grind (N.arith, N.LocalLemmas.local_by_seconds)

pub returns-clause-items : goal.returns-clause-items
returns-clause-items c = grind (N.arith, N.common_steps, N.to_z-of_z, N.WrittenLemmas.local_spelt)
