use Rattle.tds_cells.proofs as N
use N.{length, ◌-◌, ◌≡◌, ◌≤◌}
use N.run.formats.write_fields.Given as goal

abbrev pub invariant-loop-cells : goal.invariant-loop-cells
invariant-loop-cells l = record {
  within : length l.rest ≤ length l.bytes;
  rest : l.rest ≡ N.drop (length l.bytes - length l.rest) l.bytes;
  fields : N.WritesFields l.charset l.formats l.column l.bytes l.to
      (record { cells = l.cells; used = length l.bytes - length l.rest; made = l.made });
}

abbrev pub decreases-loop-cells : goal.decreases-loop-cells
decreases-loop-cells l = length l.formats - l.cells
