use Rattle.tds_rows.proofs as N
use N.cell.passed.pass_data.Goals as goal
use N.{arith}

pub loop-left-init : goal.loop-left-init
loop-left-init g c = record {
  going = c.requires.going;
  same = search N.rules;
  most = omega arith;
  passes = N.PassedCells.passes_none (omega arith) (search (N.rules, N.between_of));
}

pub returns-in_err-left-clause-data : goal.returns-in_err-left-clause-data
returns-in_err-left-clause-data g c =
    let l = c.loop-left in
    N.passed _ _ _ _ c.from_residual.ensures.1 (N.PassedCells.cuts_more (omega arith) l.invariant.passes
    c.in_err-left.ensures.piece)

pub loop-left-preserved : goal.loop-left-preserved
loop-left-preserved g c = grind (arith, N.PassedCells.passes_more)
