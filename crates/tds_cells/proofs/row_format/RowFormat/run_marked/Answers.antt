use Rattle.tds_cells.proofs as N
use N.{arith, length, ◌-◌, ◌<◌, ◌≡◌, ◌≤◌}
use N.row_format.RowFormat.run_marked.Goals as goal
use N.RowFormatRuns.{ends_clear, runs_clear, runs_more}

-- columns that are NULL by their bit
pub loop-to-preserved-then-end-at : goal.loop-to-preserved-then-end-at
loop-to-preserved-then-end-at g c =
    let l = c.loop-to in
    record {
      used = l.invariant.used;
      made = search arith;
      most = search arith;
      clear = grind arith;
      writes = λ columns knows ahead.
          rw (N.sym (N.add-zero l.used)) (grind (arith, runs_more, N.RunSteps.made_more));
    }

-- a run over columns that aren't
pub loop-to-preserved : goal.loop-to-preserved
loop-to-preserved g c =
    let l = c.loop-to in
    let end = c.clear_end-end in
    let ran = c.run_cells-cells in
    let cells = ran.result in
    let within = ran.ensures.within.before end.ensures.within.0 in
    let some : cells.made ≤ length ran.new.to = search arith in
    record {
      used = search arith;
      made = search arith;
      most = search arith;
      clear = grind arith;
      writes = λ columns knows ahead.
          let x = l.invariant.writes columns knows ahead in
          let clear = runs_clear (λ k least most. end.ensures.ends.0 k least (omega arith)) (ran.ensures.cells columns knows x.ahead) in
          runs_more _ _ _ _ _ _ l.to _ _ (N.RunSteps.made_more l.made cells.made l.to ran.new.to _ l.invariant.made some) x clear;
    }

pub returns-then-cells-eq0-clause-ends : goal.returns-then-cells-eq0-clause-ends
returns-then-cells-eq0-clause-ends g c =
    let l = c.loop-to in
    let ran = c.run_cells-cells.ensures in
    let lent = N.take (length l.to - l.made) (N.drop l.made l.to) in
    let room : length lent ≡ length c.args.to.now - l.made = omega arith in
    let end = c.clear_end-end.ensures in
    let before : l.at.column < c.clear_end-end.result = omega arith in
    let run = rw room at (rw (N.all_after _ l.used) at (ran.ends c.if-cells-eq0.true before)) in
    rw (ran.within.stays c.if-cells-eq0.true) (ends_clear _ (N.bit _) _ _ _ (end.ends.0 _ (omega arith) before) run)
