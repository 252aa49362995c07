use Rattle.tds_values.proofs as N

pub returns-clause-written : N.moments.put_date.Goals.returns-clause-written
returns-clause-written = grind (N.arith, N.append_assoc, N.MarchLemmas.march_date_text)
