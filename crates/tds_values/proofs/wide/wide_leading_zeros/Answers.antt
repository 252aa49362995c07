use Rattle.tds_values.proofs as N
use N.wide.wide_leading_zeros.Goals as goal
use N.WideDigits.{zeros_after}

pub returns-then-n-ge100000000000000000000000000000000 : goal.returns-then-n-ge100000000000000000000000000000000
returns-then-n-ge100000000000000000000000000000000 c = grind (N.arith, zeros_after 32 c.args.n c.leading_zeros.result)

pub returns-then-n-ge1000000000000000000000000 : goal.returns-then-n-ge1000000000000000000000000
returns-then-n-ge1000000000000000000000000 c = grind (N.arith, zeros_after 24 c.args.n c.leading_zeros-then-n-ge1000000000000000000000000.result)

pub returns-then-n-ge10000000000000000 : goal.returns-then-n-ge10000000000000000
returns-then-n-ge10000000000000000 c = grind (N.arith, zeros_after 16 c.args.n c.leading_zeros-then-n-ge10000000000000000.result)

pub returns-then-n-ge100000000 : goal.returns-then-n-ge100000000
returns-then-n-ge100000000 c = grind (N.arith, zeros_after 8 c.args.n c.leading_zeros-then-n-ge100000000.result)
