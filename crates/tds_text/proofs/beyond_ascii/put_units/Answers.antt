use Rattle.tds_text.proofs as N

pub returns-then-are_plain : N.beyond_ascii.put_units.Goals.returns-then-are_plain
returns-then-are_plain c = N.WideText.plain_added _ _ _ _ _ 8 c.requires.most (omega N.arith)
    c.units_of.ensures c.first_units-units.ensures.first (c.if-are_plain.ensures N.refl) c.low_bytes.ensures c.put_lanes.ensures
