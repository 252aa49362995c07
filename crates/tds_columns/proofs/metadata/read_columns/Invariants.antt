use Rattle.tds_columns.proofs as N
use N.{◌≡◌, ◌-◌, ◌+◌, ◌*◌, ◌≤◌, []}

abbrev pub invariant-columns : N.metadata.read_columns.Given.invariant-columns
invariant-columns g l = record {
  going : N.IsGoing l.payload;
  same : N.IsOnSame l.initial.payload l.payload;
  room : l.area.room ≡ l.initial.area.room;
  fits : N.length l.area.bytes + 8 * (l.count - l.index) ≤ l.area.room;
  reads : (columns : N.List N.Column) × (N.length columns ≡ l.index) × N.Describes l.initial.area.room (N.InColumn l.initial.area.bytes l.count [] N.ColumnHead)
      (N.seen g.R.Read.remaining l.initial.payload) (N.seen g.R.Read.remaining l.payload) l.initial.payload.place l.payload.place l.initial.area.peak
      l.area (N.ColumnLaws.after_columns l.area.bytes l.count columns);
}
