use Rattle.tds_csv.proofs as N

pub returns : N.sink.Sink.commit.Goals.returns
returns = grind (N.arith, N.common_steps, N.take-add, N.Appends-nil)
