use Rattle.tds_rows.proofs as N
use N.cell.passed.pass_chunks.Goals as goal
use N.PassedCells.{chunks_cut, chunks_end, chunks_more, chunks_none, chunk_steps, end_steps}

pub loop-n-init : goal.loop-n-init
loop-n-init g c = search (N.rules, chunks_none, N.between_of)

pub returns-in_err-n-clause-cell : goal.returns-in_err-n-clause-cell
returns-in_err-n-clause-cell g c = λ conversion any.
    let x = c.loop-n.invariant.walks conversion any in
    N.passed _ _ _ _ c.from_residual.ensures.1 (N.PassedCells.stops_after_steps x.steps
    (record { at = _; stops = N.Numbers.chunk_stops _ (N.sym any.unit_is) x.counted c.in_err-n.ensures.length }))

pub returns-then-n-eq0-clause-cell : goal.returns-then-n-eq0-clause-cell
returns-then-n-eq0-clause-cell g c = λ conversion any.
    let x = c.loop-n.invariant.walks conversion any in
    let r = c.in_ok-n.ensures.length in
    chunks_end x (search (N.rules, end_steps))

pub returns-in_err-pass_data-clause-cell : goal.returns-in_err-pass_data-clause-cell
returns-in_err-pass_data-clause-cell g c = λ conversion any.
    let x = c.loop-n.invariant.walks conversion any in
    let r = c.in_ok-n.ensures.length in
    let y = chunk_steps any x.counted r.1 r.2 r.3 c.if-n-eq0.false in
    N.passed _ _ _ _ c.from_residual-in_err-pass_data.ensures.1 (chunks_cut x any y c.in_err-pass_data.ensures.data)

pub loop-n-preserved : goal.loop-n-preserved
loop-n-preserved g c =
    let l = c.loop-n in
    let done = c.in_ok-pass_data.ensures in
    let r = c.in_ok-n.ensures.length in
    record {
      going = search N.rules;
      same = search N.rules;
      few = omega N.arith;
      walks = λ conversion any.
          let x = l.invariant.walks conversion any in
          chunks_more x any (search (N.rules, chunk_steps)) done.data;
    }
