use Rattle.tds_cells.proofs as N
use N.{take, true, ◌-◌, ◌≡◌, ◌≤◌}
use N.row_format.RowFormat.learn.Given as goal

abbrev pub invariant-loop-known : goal.invariant-loop-known
invariant-loop-known l = let columns = N.columns_of l.fn.columns.bytes.now in record {
  most : l.known ≤ N.length l.formats;
  few : l.known ≤ N.length columns;
  first : N.map (λ f. f.kind) (take l.known l.formats) ≡ N.map (λ c. c.kind) (take l.known columns);
  laid : N.Each (λ f. N.IsLaidOut l.fn.charset f.kind f.layout) l.formats;
  numbers : l.only_numbers ≡ true → N.Each (λ f. N.is_int4 f.kind ≡ true) l.formats;
  counted : l.only_counted ≡ true → N.Each (λ f. N.is_counted f.kind ≡ true) l.formats;
  numbers_are : l.only_numbers ≡ N.list_all (λ c. N.is_int4 c.kind) (take l.known columns);
  counted_are : l.only_counted ≡ N.list_all (λ c. N.is_counted c.kind) (take l.known columns);
  rest : N.columns_left l.rest ≡ N.drop l.known columns;
}

abbrev pub decreases-loop-known : goal.decreases-loop-known
decreases-loop-known l = N.length l.formats - l.known
