use Rattle.tds_values.proofs as N

pub returns-clause-items : N.reference_text.push_ticks.Goals.returns-clause-items
returns-clause-items c = simp (c.push_fraction.ensures.items, c.push_seconds.ensures.items, N.append_assoc)
