use Rattle.tds_rows.proofs as N
use N.cell.passed.pass_data.Given as goal
use N.{◌-◌, ◌≤◌}

abbrev pub invariant-loop-left : goal.invariant-loop-left
invariant-loop-left g l = record {
  going : N.IsGoing l.payload;
  same : N.IsOnSame l.initial.payload l.payload;
  most : l.left ≤ l.n;
  passes : N.PassesData (l.n - l.left) (N.seen g.R.Read.remaining l.initial.payload) (N.seen g.R.Read.remaining l.payload) l.initial.payload.place
      l.payload.place;
}

abbrev pub decreases-loop-left : goal.decreases-loop-left
decreases-loop-left g l = l.left
