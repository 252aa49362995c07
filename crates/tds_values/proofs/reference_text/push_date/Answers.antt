use Rattle.tds_values.proofs as N

pub returns-clause-items : N.reference_text.push_date.Goals.returns-clause-items
returns-clause-items = grind (N.arith, N.append_assoc, N.JiffDates.date_since_min)
