use Rattle.tds_values.proofs as N
use N.moments.put_day.Goals as goal

pub returns-clause-written : goal.returns-clause-written
returns-clause-written = grind (N.arith, N.Joining.spaced)

pub returns-clause-space : goal.returns-clause-space
returns-clause-space c =
    (N.Joining.spaced c.args.at c.put_piece.result c.args.before _ _ _ (omega N.arith) c.put_piece.ensures.end c.put_piece.ensures.written
    c.day_after_march.ensures).1
