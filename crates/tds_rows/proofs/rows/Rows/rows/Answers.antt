use Rattle.tds_rows.proofs as N
use N.rows.Rows.rows.Goals as goal
use N.{◌∙◌, sym}
use N.NextSteps.{come_first, come_last, come_next, come_rows, come_stops, come_taken}

pub loop-ended-init : goal.loop-ended-init
loop-ended-init g c =
    record { knows = c.requires.in_row.1; room = N.refl; bound = omega N.arith; few = omega N.arith; reads = come_first _ _ c.requires.in_row.0 }

pub returns-then-whole-clause-rows : goal.returns-then-whole-clause-rows
returns-then-whole-clause-rows g c = λ columns knows.
    let l = c.loop-ended.invariant in
    let whole = c.put_whole_rows-whole.ensures in
    come_last _ _ whole.stays l.knows.2 whole.rows g.M.Marks.token whole.plain l.reads c.if-whole.true knows

pub returns-in_err-ended-clause-rows : goal.returns-in_err-ended-clause-rows
returns-in_err-ended-clause-rows g c = λ columns knows.
    let l = c.loop-ended.invariant in
    let whole = c.put_whole_rows-whole.ensures in
    let come = come_taken _ _ whole.stays l.knows.2 whole.rows g.M.Marks.token whole.plain l.reads c.if-whole.false in
    N.passed _ _ _ _ c.from_residual.ensures.1 (come_stops _ _ g.M.Marks.token come c.in_err-ended.ensures.leaves c.in_err-ended.ensures.rows knows)

pub returns-then-not-take_token-clause-rows : goal.returns-then-not-take_token-clause-rows
returns-then-not-take_token-clause-rows g c = λ columns knows.
    let l = c.loop-ended.invariant in
    let whole = c.put_whole_rows-whole.ensures in
    let come = come_taken _ _ whole.stays l.knows.2 whole.rows g.M.Marks.token whole.plain l.reads c.if-whole.false in
    rw (sym (c.if-not-take_token.ensures.token g.M.Marks.token (g.met.M.Marks.named ∙ sym c.TOKEN.ensures)).0, sym c.take_token.ensures.sink) at
    (come_rows _ _ g.M.Marks.token come c.in_ok-ended.ensures.leaves c.in_ok-ended.ensures.rows knows)

pub loop-ended-preserved : goal.loop-ended-preserved
loop-ended-preserved g c =
    let l = c.loop-ended.invariant in
    let whole = c.put_whole_rows-whole.ensures in
    let done = c.in_ok-ended.ensures in
    let kept = c.take_token.ensures.stays in
    let taken = c.if-not-take_token.ensures.token g.M.Marks.token (g.met.M.Marks.named ∙ sym c.TOKEN.ensures) in
    let come = come_taken _ _ whole.stays l.knows.2 whole.rows g.M.Marks.token whole.plain l.reads c.if-whole.false in
    let known = rw (sym whole.stays.same.3) at l.knows in
    record {
      knows = rw (sym (kept.same.3 ∙ done.leaves.same.3)) at known;
      room = done.room.keeps.room ∙ c.empty.ensures.room.keeps.room ∙ l.room;
      bound = grind (N.arith, done.room.bound, c.empty.ensures.room.bound, l.bound);
      few = omega (N.arith, whole.few, done.few, taken.1);
      reads = come_next _ _ g.M.Marks.token come done.leaves done.rows known.2 kept c.take_token.ensures.sink taken;
    }
