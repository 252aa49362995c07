use Rattle.tds_text.proofs as N
use N.windows_1252.put_upper.Goals as goal

pub returns-clause-most : goal.returns-clause-most
returns-clause-most c = omega (N.arith, (N.Singles.upper_text _ c.requires.upper c.ranges.byte.fits c.upper-text.ensures).1)

pub returns-clause-written : goal.returns-clause-written
returns-clause-written = grind (N.arith, N.Singles.upper_put)
