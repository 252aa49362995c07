use Rattle.tds_values.proofs as N
use N.numbers.put_last.Goals as goal
use N.{◌-◌}
use N.DigitLemmas.{last_digits_after}

pub returns-then-k-le16-clause-written : goal.returns-then-k-le16-clause-written
returns-then-k-le16-clause-written c = grind (N.arith, N.append_assoc, last_digits_after c.args.k 8, N.DigitLemmas.last_digits-below (c.args.k - 8) 8)

pub returns-clause-written : goal.returns-clause-written
returns-clause-written c = grind (N.arith, N.append_assoc, last_digits_after c.args.k 8, last_digits_after (c.args.k - 8) 8)
