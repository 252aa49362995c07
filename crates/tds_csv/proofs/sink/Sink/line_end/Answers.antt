use Rattle.tds_csv.proofs as N

pub returns : N.sink.Sink.line_end.Goals.returns
returns = grind (N.arith, N.LentRooms.kept)
