use Rattle.tds_columns.proofs as N
use N.metadata.read_columns.Goals as goal
use N.{◌≡◌, ◌∙◌, [], ◌∷◌, ◌++◌, arith, rules, ◌==◌}
use N.ColumnLaws.{at_column}

pub columns-init : goal.columns-init
columns-init g c = record {
  going = c.requires.going;
  same = search rules;
  room = search rules;
  fits = omega arith;
  reads = (
    [],
    N.refl,
    rw (at_column _ c.args.count [] c.requires.some)
        (record { reads = N.reads_none _ _ _; place_is = omega arith; kept = N.refl; bound = omega arith; further = N.le_refl _ }),
  );
}

pub returns-in_err-read_column-clause-gives : goal.returns-in_err-read_column-clause-gives
returns-in_err-read_column-clause-gives g c =
    let columns = c.columns.invariant.reads in
    let read = rw (at_column c.columns.area.bytes c.args.count columns.0 (omega arith)) at columns.2 in
    N.passed _ _ _ _ c.from_residual.ensures.1 (N.GatherSteps.stops_describing_after c.columns.invariant.room read
    (grind arith))

pub columns-preserved : goal.columns-preserved
columns-preserved g c =
    let columns = c.columns.invariant.reads in
    let read = rw (at_column c.columns.area.bytes c.args.count columns.0 (omega arith)) at columns.2 in
    let one = c.in_ok-read_column.ensures.gives columns.0 columns.1 in
    let len = N.length-append columns.0 (one.0 ∷ []) in
    let ok = c.in_ok-read_column.ensures in
    record {
      going = search rules;
      same = search rules;
      room = ok.leaves.room ∙ c.columns.invariant.room;
      fits = ok.fits;
      reads = (columns.0 ++ one.0 ∷ [], omega arith, rw len (N.GatherSteps.describes_both c.columns.invariant.room read one.1));
    }

pub returns-clause-gives : goal.returns-clause-gives
returns-clause-gives g c =
    let columns = c.columns.invariant.reads in
    let all : N.length columns.0 ≡ c.args.count = omega arith in
    ((columns.0, all), rw (N.choose_true (N.length columns.0 == c.args.count) _ _ (grind arith)) at columns.2)
