use Rattle.tds_rows.proofs as N

pub returns-clause-piece : N.cell.passed.pass_piece.Goals.returns-clause-piece
returns-clause-piece g c = grind (N.arith, N.common_steps, N.length-take-le, N.seen)
