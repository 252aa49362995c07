use Rattle.tds_text.proofs as N

pub returns : N.laws.begins_by_test.Goals.returns
returns = grind (N.arith, N.Utf8Laws.begins_none, N.Utf8Laws.none_begins)
