use Rattle.tds_cells.proofs as N
use N.{arith}
use N.nulls.write_nulls.Goals as goal

pub returns-then-columns-lt2-clause-nulls : goal.returns-then-columns-lt2-clause-nulls
returns-then-columns-lt2-clause-nulls c = rw c.write_null-made.ensures.text
    (N.NullRuns.null_alone (N.bit c.args.bitmap.now) c.args.column c.args.count c.requires.null.0 c.requires.null.1)

pub copy_from_slice-requires : goal.copy_from_slice-requires
copy_from_slice-requires c = N.length-take-le 40 c.args.to.now (omega arith)

pub slice_bounds-copy_from_slice-end-2 : goal.slice_bounds-copy_from_slice-end-2
slice_bounds-copy_from_slice-end-2 c = N.sym (N.length-take-le 40 c.args.to.now (omega arith))

pub returns-clause-nulls : goal.returns-clause-nulls
returns-clause-nulls c =
    let n = c.min-columns.result in
    rw (c.copy_from_slice.ensures.after, N.NullRuns.first_nulls n (N.drop 40 c.args.to.now) (omega arith)) (grind (arith, N.NullRuns.nulls_inside))
