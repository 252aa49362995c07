use Rattle.tds_rows.proofs as N
use N.cell.streamed.LongValue.push_data.Goals as goal
use N.{◌∙◌, rules}

pub loop-left-init : goal.loop-left-init
loop-left-init g c = record {
  leaves = search rules;
  begun = search rules;
  some = c.requires.some;
  place = search rules;
  calm = N.refl;
  filled = λ conversion content suits is begun.
      N.JoinedPieces.filled_none begun is (search (rules, N.between_of))
      (search rules) c.requires.joining.sink.ready.2;
}

pub returns-in_err-left-clause-data : goal.returns-in_err-left-clause-data
returns-in_err-left-clause-data g c = λ conversion content suits is begun.
    let l = c.loop-left.invariant in
    let p = l.filled conversion content suits is begun in
    let x = rw l.leaves.same.3 at (c.in_err-left.ensures.piece conversion _ suits p.kept_is p.fills.begun) in
    N.passed _ _ _ _ c.from_residual.ensures.1 (N.JoinedPieces.filled_stops begun p l.some x)

pub loop-left-preserved : goal.loop-left-preserved
loop-left-preserved g c =
    let l = c.loop-left.invariant in
    let done = c.in_ok-left.ensures in
    record {
      leaves = search rules;
      begun = done.begun;
      some = omega N.arith;
      calm = done.blames ∙ l.calm;
      place = omega N.arith;
      filled = λ conversion content suits is begun.
          let p = l.filled conversion content suits is begun in
          let x = done.piece conversion _ suits p.kept_is p.fills.begun in
          N.JoinedPieces.filled_more begun p done.further.1 (search rules) done.leaves.sink.ready.2 x;
    }
