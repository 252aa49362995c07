use Rattle.tds_values.proofs as N
use N.{◌-◌, ◌/◌}
use lib.Count.{count_trailing_zeros}

pub returns-clause-written : N.digits.put_4.Goals.returns-clause-written
returns-clause-written c =
    let n = c.args.n in
    let skipped : N.ℕ = count_trailing_zeros 32 (c.four-digits.result - 540028976) / 8 in
    let zeros = N.ZeroLemmas.zeros_of 3 n c.four-digits.result c.requires.small c.four-digits.ensures in
    let put = N.WordLemmas.last_put (N.take c.args.at c.args.to.now) c.put_piece.new.to c.args.at skipped (4 - skipped) 4 n in
    grind (N.arith, zeros, put, (N.DigitLemmas.decimal_last (3 - skipped) n), N.length-take-le)
