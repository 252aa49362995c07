use Rattle.tds_csv.proofs as N

pub returns : N.names.put_name.Goals.returns
returns = grind (N.arith, N.LentRooms.kept)
