use Rattle.tds_text.proofs as N

pub returns-then-front-bytes : N.utf8.convert_begun.Goals.returns-then-front-bytes
returns-then-front-bytes = grind (N.arith, N.UsualText.begun_whole)
