use Rattle.tds_values.proofs as N
use N.{◌-◌}

pub returns-clause-written : N.wide.put_last.Goals.returns-clause-written
returns-clause-written c =
    grind (
      N.arith,
      (N.WideDigits.digits_from (N.take c.args.at c.args.to.now) c.put_piece.new.to c.args.digits.now c.args.at (40 - c.args.scale) 16),
      N.length-take-le,
    )
