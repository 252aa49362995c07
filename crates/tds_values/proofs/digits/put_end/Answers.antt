use Rattle.tds_values.proofs as N
use N.{◌-◌}

pub returns-clause-written : N.digits.put_end.Goals.returns-clause-written
returns-clause-written c =
    grind (N.arith, (N.WordLemmas.last_put (N.take c.args.at c.args.to.now) c.put_piece.new.to c.args.at (4 - c.args.k) c.args.k 4 c.args.n), N.length-take-le)
