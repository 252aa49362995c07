use Rattle.tds_cells.proofs as N
use N.{length, ◌*◌, ◌+◌, ◌-◌, ◌<◌, ◌≡◌, ◌≤◌}
use N.run.formats.write_numbers.Given as goal

abbrev pub invariant-loop-cells : goal.invariant-loop-cells
invariant-loop-cells g l = record {
  from : l.fn.from.used ≤ l.used;
  begun : l.fn.from.made ≤ l.made;
  size : length l.to ≡ length l.fn.to;
  kept : N.take l.fn.from.made l.to ≡ N.take l.fn.from.made l.fn.to;
  whole : l.used + 5 * (length l.formats - l.cells) < length l.bytes;
  fits : l.made + 12 * (length l.formats - l.cells) + 25 ≤ length l.to;
  fields : (charset : N.Charset) → N.WritesFields charset l.formats 0 (N.drop l.fn.from.used l.bytes) (N.drop l.fn.from.made l.to)
      (N.run_since l.fn.from (record { cells = l.cells; used = l.used; made = l.made }));
}

abbrev pub decreases-loop-cells : goal.decreases-loop-cells
decreases-loop-cells g l = length l.formats - l.cells
