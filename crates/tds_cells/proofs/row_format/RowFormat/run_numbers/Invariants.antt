use Rattle.tds_cells.proofs as N
use N.{◌-◌, ◌≡◌}
use N.row_format.RowFormat.run_numbers.Given as goal

abbrev pub invariant-loop-used : goal.invariant-loop-used
invariant-loop-used g l = record {
  same : N.length l.to ≡ N.length l.fn.to;
  ran : N.KnownRan l.fn.self 0 l.fn.bytes l.to (record { used = l.used; made = l.made; rows = l.rows; column = 0 });
}

abbrev pub decreases-loop-used : goal.decreases-loop-used
decreases-loop-used g l = N.length l.fn.bytes - l.used
