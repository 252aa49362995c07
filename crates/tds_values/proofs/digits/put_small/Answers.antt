use Rattle.tds_values.proofs as N
use N.digits.put_small.Goals as goal

pub returns-clause-end : goal.returns-clause-end
returns-clause-end c =
    let put = rw c.put_piece.ensures.end at c.put_piece.ensures.written in
    omega (N.arith, (N.TableLemmas.small_put c.args.n c.args.at _ _ _ _ _ c.ranges.n.fits (omega N.arith) N.refl N.refl (omega N.arith) put).0)

pub returns-clause-written : goal.returns-clause-written
returns-clause-written = grind (N.arith, N.TableLemmas.small_put)
