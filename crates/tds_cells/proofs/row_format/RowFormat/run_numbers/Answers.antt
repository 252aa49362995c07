use Rattle.tds_cells.proofs as N
use N.{arith, ◌∙◌, ◌≡◌}
use N.row_format.RowFormat.run_numbers.Goals as goal
use Rattle.tds_cells.proofs.row_format.RowFormat.run_numbers.Goals.{In-Some-run_row}
use N.RowFormatRuns.{known_begin, known_begun, row_far}

pub returns-in_default-clause-rows : goal.returns-in_default-clause-rows
returns-in_default-clause-rows g c = rw c.none.ensures known_begin

pub loop-used-init : goal.loop-used-init
loop-used-init g c = record { same = N.refl; ran = known_begin }

-- the run with one row more
with_row : (g : N.row_format.RowFormat.run_numbers.Given.Over) (c : In-Some-run_row g) → let run = c.in-Some-run_row.run' in
    N.KnownRan c.args.self.now 0 c.args.bytes.now c.run_row.new.to
    (record { used = run.used; made = run.made; rows = c.loop-used.rows; column = c.args.self.now.count })
with_row g c =
    let row_format = c.args.self.now in
    let row = c.row-row.result.now in
    let done = c.in-Some-run_row.ensures in
    let whole = done.row.0 ∙ N.FarRuns.row_length row_format c.requires.all c.row-row.ensures.row in
    row_far row_format row _ c.run_row.new.to c.requires.all c.requires.some c.row-row.ensures.row whole c.run_row.ensures.kept
    (search arith) (done.within.0, done.within.2) (done.row.1 row_format.charset) c.loop-used.invariant.ran

pub loop-used-preserved : goal.loop-used-preserved
loop-used-preserved g c = record {
  same = search arith;
  ran = known_begun c.requires.all c.requires.some (omega arith) (grind arith) (with_row g (goal.at.loop-used-preserved g c).In-Some-run_row);
}

pub returns-then-not-begins_row-clause-rows : goal.returns-then-not-begins_row-clause-rows
returns-then-not-begins_row-clause-rows g c =
    let all : N.length c.row-row.result.now ≡ c.args.self.now.count = grind (arith, N.FarRuns.row_length) in
    rw (c.ended.ensures, all) (with_row g (goal.at.returns-then-not-begins_row-clause-rows g c).In-Some-run_row)
