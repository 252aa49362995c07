use Rattle.tds_cells.proofs as N
use N.{arith, length, refl, ◌+◌, ◌-◌, ◌≡◌}
use N.row_format.RowFormat.run_known.Goals as goal
use N.RowFormatRuns.{known_begin, known_begun, known_formats, known_further, known_kept}

pub loop-formats-init : goal.loop-formats-init
loop-formats-init g c = known_begin

pub loop-formats-preserved-in_default : goal.loop-formats-preserved-in_default
loop-formats-preserved-in_default g c =
    let end = c.in_default.ensures.end refl in
    known_begun c.requires.all c.requires.some end (grind arith) (known_further _ _ c.loop-formats.invariant c.run_fast-fast.ensures.rows)

pub loop-formats-preserved : goal.loop-formats-preserved
loop-formats-preserved g c =
    let fast = c.run_fast-fast in
    let run = c.run_formats-run in
    known_formats _ run.result _ _ run.new.to _ c.requires.all c.in-Some.ensures.ahead c.in-Some.ensures.whole (omega arith) (search arith)
    (N.RunSteps.made_more (c.loop-formats.made + fast.result.run.made) run.result.made (N.put_mid c.loop-formats.made _ c.loop-formats.to fast.new.to)
    run.new.to _
    (search arith) (search arith)) refl refl run.ensures.run (known_further _ _ c.loop-formats.invariant fast.ensures.rows)

pub returns-then-not-row_follows-clause-rows : goal.returns-then-not-row_follows-clause-rows
returns-then-not-row_follows-clause-rows g c = known_further _ _ c.loop-formats.invariant c.run_fast-fast.ensures.rows

pub returns-then-run-eq0 : goal.returns-then-run-eq0
returns-then-run-eq0 g c =
    let l = c.loop-formats in
    let fast = c.run_fast-fast in
    let run = c.run_formats-run in
    let made = l.made + fast.result.run.made in
    let mid = N.put_mid l.made (length l.to - l.made) l.to fast.new.to in
    let ran = known_further _ _ l.invariant fast.ensures.rows in
    record {
      ends = λ walk.
          let left = N.RowFormatRuns.first_left (c.in-Some.ensures.ahead walk) (run.ensures.run.ends c.if-run-eq0.true) in
          let room : length (N.take (length mid - made) (N.drop made mid)) ≡ length c.args.to.now - made = omega arith in
          rw room at (rw (N.all_after c.args.bytes.now _) at left);
      last = λ end begins. absurd (omega (arith, end, c.in-Some.ensures.whole, (c.in-Some.ensures.ahead c.args.self.now.rest).some));
      rows = known_kept (N.same_len_mid made _ mid _ (search arith)) (N.RunSteps.made_same made mid _ ran.made) ran;
    }

pub returns-then-fast : goal.returns-then-fast
returns-then-fast g c =
    let l = c.loop-formats in
    let fast = c.run_fast-fast in
    record {
      ends = λ walk.
          let left = fast.ensures.left.ends c.if-fast.true walk in
          let room : length (N.take (length l.to - l.made) (N.drop l.made l.to)) - fast.result.run.made ≡ length c.args.to.now -
          (l.made + fast.result.run.made) =
          omega arith in
          rw (N.drop-drop fast.result.run.used l.used c.args.bytes.now) at (rw (N.all_after c.args.bytes.now l.used) at (rw room at left));
      last = grind arith;
      rows = known_further _ _ l.invariant fast.ensures.rows;
    }
