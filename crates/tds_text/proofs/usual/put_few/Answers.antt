use Rattle.tds_text.proofs as N

pub returns-clause-written : N.usual.put_few.Goals.returns-clause-written
returns-clause-written = grind (N.arith, N.Characters.three_more, N.UsualText.three_there)
