use Rattle.tds_rows.proofs as N
use N.rows.Rows.row_by.Goals as goal
use N.{◌≡◌, ◌∙◌, ap, arith, refl}
use N.NextSteps.{next_fails, next_further, run_fails, stands_end, stands_run, stays_on, token_is, NextPut}
use Rattle.tds_cells.proofs.RowFormatSteps.{takes}

-- what `?` passes on is this error
err_is : {T E : Type 0} (r : N.Result T E) (e : E) → N.IsErrAnd r (λ x. x ≡ e) → r ≡ N.Err e
err_is r e is = N.passed_on r e (λ t. t ≡ N.Err e) is refl

pub returns-in_err-begin-clause-rows : goal.returns-in_err-begin-clause-rows
returns-in_err-begin-clause-rows g c = λ columns knows.
    rw (err_is _ _ c.from_residual.ensures.1) (N.NextSteps.bitmap_fails _ _ _ _ g.M.Marks.token _ _ c.requires.in_row.0.sink knows c.requires.in_row.1.2
    (rw c.count.ensures at c.in_err-begin.ensures.bitmap))

pub loop-begun-init : goal.loop-begun-init
loop-begun-init g c =
    let row = c.requires.in_row.0 in
    let payload = c.in_ok-begin.ensures.payload in
    let is = token_is g.M.Marks.token c.nulls-nulls.result _ c.nulls-nulls.ensures in
    let first = N.NextSteps.stands_first _ g.W.Write.contents c.nulls-nulls.result _ (rw is at c.nulls-nulls.ensures) c.requires.in_row.1 row.sink
    (record {
      in_row = record { payload = record { sound = payload.sound; going = payload.going }; sink = row.sink; room = row.room };
      same = (refl, refl, refl, refl);
      payload = payload.same;
      sink = (refl, refl, refl);
      small = record { room = refl; bound = omega arith };
    })
    refl c.start-at.ensures.first c.start-at.ensures.ahead (rw (is, c.count.ensures) at c.in_ok-begin.ensures.bitmap) in
    record { knows = c.requires.in_row.1; covers = first.0; few = omega (arith, first.1); reads = first.2 }

pub returns-in_err-begun-clause-rows : goal.returns-in_err-begun-clause-rows
returns-in_err-begun-clause-rows g c = λ columns knows.
    rw (err_is _ _ c.from_residual-in_err-begun.ensures.1, token_is g.M.Marks.token c.nulls-nulls.result _ c.nulls-nulls.ensures)
    (run_fails _ _ _ c.loop-begun.invariant.reads c.loop-begun.invariant.knows.2 c.in_err-begun.ensures knows)

pub loop-begun-preserved-then-min-le-BLOCK_END : goal.loop-begun-preserved-then-min-le-BLOCK_END
loop-begun-preserved-then-min-le-BLOCK_END g c =
    let l = c.loop-begun.invariant in
    let run = c.in_ok-begun.ensures in
    let same = N.sym run.leaves.same.3 in
    record { knows = rw same at l.knows; covers = rw same at l.covers; few = omega (arith, run.few); reads = stands_run _ _ _ l.reads run }

pub returns-in_default-clause-rows : goal.returns-in_default-clause-rows
returns-in_default-clause-rows g c =
    let x = stands_run _ _ _ c.loop-begun.invariant.reads c.in_ok-begun.ensures in
    λ columns knows. rw (token_is g.M.Marks.token c.nulls-nulls.result _ c.nulls-nulls.ensures)
    (stands_end _ _ _ x c.in_default.ensures.taken knows)

pub returns-in_err-put_next-clause-rows : goal.returns-in_err-put_next-clause-rows
returns-in_err-put_next-clause-rows g c =
    let x = stands_run _ _ _ c.loop-begun.invariant.reads c.in_ok-begun.ensures in
    λ columns knows. rw (err_is _ _ c.from_residual-in_err-put_next.ensures.1, token_is g.M.Marks.token c.nulls-nulls.result _ c.nulls-nulls.ensures)
    (next_fails _ _ _ x (record {
      kind = _;
      takes = λ columns knows is.
          let next = c.in-Some.ensures.taken columns knows is in takes next.0 c.in-Some.ensures.further next.1;
      read = rw c.is_null.ensures at c.in_err-put_next.ensures.cell;
    }) knows)

pub returns-in_err-put_next-clause-leaves : goal.returns-in_err-put_next-clause-leaves
returns-in_err-put_next-clause-leaves g c =
    let kept = stays_on c.loop-begun.invariant.reads.kept c.in_ok-begun.ensures.leaves in
    rw (err_is _ _ c.from_residual-in_err-put_next.ensures.1) (grind arith)

next_put : (g : N.rows.Rows.row_by.Given.Over) (c : goal.In_ok-put_next g)
    → NextPut g.R.Read.remaining g.W.Write.contents c.nulls-nulls.result c.put_run.new.self c.put_next.new.self c.put_run.new.at c.in-Some.after (N.Ok _)
next_put g c = record {
  kind = _;
  takes = λ columns knows is.
      let next = c.in-Some.ensures.taken columns knows is in takes next.0 c.in-Some.ensures.further next.1;
  read = rw c.is_null.ensures at c.in_ok-put_next.ensures.cell;
}

pub loop-begun-smaller : goal.loop-begun-smaller
loop-begun-smaller g c =
    let l = c.loop-begun in
    let run = c.in_ok-begun.ensures in
    let done = c.in_ok-put_next.ensures.leaves in
    let further = next_further _ _ _ l.invariant.reads run c.requires.in_row.1 (next_put g c) in
    N.NextSteps.row_shrinks _ _ _ _ c.put_next.new.self.payload.now.place _ _ l.at.column c.in-Some.after.column
    (ap (λ r. r.now.count) (done.same.3 ∙ run.leaves.same.3)) (done.payload.same.3 ∙ run.leaves.payload.same.3)
    (omega (arith, done.payload.sound.wire)) (omega (arith, c.in-Some.ensures.within, ap (λ r. r.now.count) done.same.3))
    l.self.row_format.now.fits (omega (arith, run.few)) further

pub loop-begun-preserved : goal.loop-begun-preserved
loop-begun-preserved g c =
    let l = c.loop-begun.invariant in
    let run = c.in_ok-begun.ensures in
    let done = c.in_ok-put_next.ensures in
    let same = N.sym (done.leaves.same.3 ∙ run.leaves.same.3) in
    let further = next_further _ _ _ l.reads run c.requires.in_row.1 (next_put g c) in
    record {
      knows = rw same at l.knows;
      covers = rw same at l.covers;
      few = omega (arith, run.few, further.0);
      reads = N.NextSteps.stands_next _ _ _ (stands_run _ _ _ l.reads run) done.leaves (next_put g c);
    }
