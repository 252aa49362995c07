use Rattle.tds_rows.proofs as N
use N.cell.streamed.LongValue.chunks.Goals as goal
use N.{◌∙◌, arith, rules, sym}
use N.ChunkRuns.{run_at, streamed_run}
use Rattle.tds_cells.proofs.SeveralChunks.{rest_none}

pub loop-n-init : goal.loop-n-init
loop-n-init g c =
    let run = c.take_chunks-sum.ensures in
    record {
      leaves = search rules;
      begun = run.begun;
      few = omega (arith, run.few);
      calm = run.calm;
      streamed = λ conversion suits.
          streamed_run (omega arith) (search (rules, N.LongValues.streamed_none, rest_none))
          (run_at suits run.chunks _ _);
    }

pub returns-in_err-n-clause-field : goal.returns-in_err-n-clause-field
returns-in_err-n-clause-field g c = λ conversion suits.
    let l = c.loop-n.invariant in
    let x = l.streamed conversion suits in
    let y = rw (c.UNIT.ensures, l.leaves.same.3) at c.in_err-n.ensures.length in
    let stops = N.LongValues.reading_stops _ l.leaves.sink.ready.2 l.leaves.sink.writing (search (rules, N.Numbers.chunk_stops)) in
    N.passed _ _ _ _ c.from_residual.ensures.1 (N.Paths.path_stops x.path stops)

pub returns-then-n-eq0-clause-field : goal.returns-then-n-eq0-clause-field
returns-then-n-eq0-clause-field g c = λ conversion suits.
    let l = c.loop-n.invariant in
    let x = l.streamed conversion suits in
    let r = c.in_ok-n.ensures.length in
    let none = sym r.3 ∙ c.if-n-eq0.true in
    let free = rw (c.UNIT.ensures, l.leaves.same.3) at r.2 in
    let ended = rw (l.leaves.same.3, l.leaves.same.4, c.place-place.ensures, suits.quoted_is) at
    (c.put_end.ensures.end conversion x.content suits x.kept_is x.begun) in
    rw c.put_end.ensures.payload (N.MatchResult-weaker _ ended (λ _ y. N.LongValues.chunks_whole _ suits.unit_is x r.1 free none y.0 y.1)
    (λ stop y. N.LongValues.chunks_end_stops _ suits.unit_is x r.1 free (search rules) l.leaves.sink.ready.2 none
    y))

pub returns-in_err-push_data-clause-field : goal.returns-in_err-push_data-clause-field
returns-in_err-push_data-clause-field g c = λ conversion suits.
    let l = c.loop-n.invariant in
    let x = l.streamed conversion suits in
    let r = c.in_ok-n.ensures.length in
    let free = rw (c.UNIT.ensures, l.leaves.same.3) at r.2 in
    let read = N.LongValues.chunk_path _ suits.unit_is x r.1 free r.3 c.if-n-eq0.false l.leaves.sink.ready.2 in
    N.passed _ _ _ _ c.from_residual-in_err-push_data.ensures.1
    (N.Paths.path_stops read (N.LongValues.filling_stops _ (N.LongValues.chunk_holds _ conversion _)
    (search rules)))

pub loop-n-preserved-then-n-gt-LONGEST_CHUNK : goal.loop-n-preserved-then-n-gt-LONGEST_CHUNK
loop-n-preserved-then-n-gt-LONGEST_CHUNK g c =
    let l = c.loop-n.invariant in
    let done = c.in_ok-push_data.ensures in
    record {
      leaves = search rules;
      begun = done.begun;
      calm = search (rules, N.Numbers.same_failures);
      few = omega (arith, (c.in_ok-n.ensures.length).1.place_is);
      streamed = λ conversion suits.
          let x = l.streamed conversion suits in
          let r = c.in_ok-n.ensures.length in
          let free = rw (c.UNIT.ensures, l.leaves.same.3) at r.2 in
          N.LongValues.streamed_more _ suits.unit_is x r.1 free r.3 c.if-n-eq0.false l.leaves.sink.ready.2 done.leaves.sink.ready.2
          (search rules);
    }

pub loop-n-preserved : goal.loop-n-preserved
loop-n-preserved g c =
    let l = c.loop-n.invariant in
    let done = c.in_ok-push_data.ensures in
    let run = c.take_chunks-sum-in-loop-n.ensures in
    record {
      leaves = search rules;
      begun = run.begun;
      calm = search (rules, N.Numbers.same_failures);
      few = omega (arith, (c.in_ok-n.ensures.length).1.place_is, run.few);
      streamed = λ conversion suits.
          let x = l.streamed conversion suits in
          let r = c.in_ok-n.ensures.length in
          let free = rw (c.UNIT.ensures, l.leaves.same.3) at r.2 in
          streamed_run (omega arith) (N.LongValues.streamed_more _ suits.unit_is x r.1 free r.3 c.if-n-eq0.false l.leaves.sink.ready.2 done.leaves.sink.ready.2
          (search rules)) (run_at suits run.chunks _ _);
    }
