-- A description that is whole at the front of bytes.
use Rattle.tds_columns.proofs as N
use N.{◌≡◌, ◌∙◌, ℕ, ◌+◌, ◌-◌, ◌*◌, ◌<◌, ◌≤◌, List, [], ◌∷◌, ◌++◌, length, take, drop, arith, refl}
use N.ColumnMeaning.{one_more_column}
use N.ViewLaws.{all_after}
use Rattle.std.proofs.Math.Seq.{take-add}
use Rattle.tds_packet.proofs.Futures.{Takes-more}
use Rattle.tds_columns.specs.Gather.{BeginsColumn, BeginsColumns, BeginsDescription}
use Rattle.tds_columns.specs.View.{IsDescription}

-- a byte more
one_further : (n : ℕ) (bytes : List ℕ) → n + 1 ≤ length bytes → take (n + 1) bytes ≡ take n bytes ++ N.slice_index bytes n ∷ []
one_further = grind (arith, take-add, N.drop-cons)

-- the parts of a column
column_parts : (bytes : List ℕ) (rest units : ℕ) → 8 + rest ≤ length bytes → N.slice_index bytes (7 + rest) ≡ units → take ((8 + rest) + 2 * units) bytes
    ≡ (take 6 bytes ++ N.slice_index bytes 6 ∷ take rest (drop 7 bytes)) ++ units ∷ take (2 * units) (drop (8 + rest) bytes)
column_parts = grind (arith, one_further, take-add, N.append_assoc)

-- a column whose type information and name are there
pub column_begins : (bytes : List ℕ) (rest units : ℕ) {kind : N.Kind} → (8 + rest) + 2 * units ≤ length bytes
    → N.kind_of (N.slice_index bytes 6 ∷ take (7 + rest - 7) (drop 7 bytes)) ≡ N.Some kind → N.slice_index bytes (7 + rest) ≡ units → units < 256
    → BeginsColumn bytes ((8 + rest) + 2 * units)
column_begins bytes rest units {kind} fits known is byte = (
  record { kind = kind; name = take (2 * units) (drop (8 + rest) bytes) },
  record {
    ignored = take 6 bytes;
    info = N.slice_index bytes 6 ∷ take rest (drop 7 bytes);
    units = units;
    spelt = grind (arith, column_parts);
    six = grind arith;
    kind = grind arith;
    counted = N.length-take-le (2 * units) (drop (8 + rest) bytes) (omega (arith, N.length-drop (8 + rest) bytes));
    byte = byte;
  },
  fits,
)

-- a further column
pub columns_begin : (bytes : List ℕ) (count size more : ℕ) → BeginsColumns bytes count size
    → BeginsColumn (take (length bytes - size) (drop size bytes)) more → BeginsColumns bytes (count + 1) (size + more)
columns_begin bytes count size more h all = let one = rw (all_after bytes size) at all in (
  h.0 ++ one.0 ∷ [],
  omega (arith, N.length-append h.0 (one.0 ∷ [])),
  rw (take-add size more bytes) (grind (arith, one_more_column)),
  omega (arith, N.length-drop size bytes),
)

-- the description is in the area, and was taken
pub keeps_whole : (room : ℕ) (bytes : List ℕ) (count size : ℕ) {a b : N.PayloadView} (peak : ℕ) (after : N.Space) {place place' : ℕ}
    → BeginsDescription room bytes count size → N.Takes a b (take size bytes) 0 → after.bytes ≡ take size bytes → after.peak ≤ N.max peak size
    → place' ≡ place + size → N.DescribesAll room a b place place' peak after (N.Columns count)
keeps_whole room bytes count size {a} {b} peak after {place} {place'} h took same low at =
    let whole : length (take size bytes) ≡ size = N.length-take-le size bytes h.3 in
    let all : N.Takes a b (take size bytes) (length (take size bytes)) = Takes-more a b (take size bytes) 0 _ (omega arith) took in (
      h.0,
      h.1,
      record {
        reads = record { bytes = take size bytes; spelt = rw same (N.ColumnLaws.description_is_read room h.0 (take size bytes) h.2); takes = all };
        place_is = rw whole at;
        kept = refl;
        bound = rw same (omega arith);
        further = rw same (omega (arith, N.ap length h.2.spelt));
      },
      rw same all,
      rw same h.2,
    )

-- the description is taken
pub takes_whole : (room : ℕ) (bytes : List ℕ) (count size : ℕ) {a b : N.PayloadView} (before after : N.Space) {place place' : ℕ}
    → BeginsDescription room bytes count size → N.Takes a b (take size bytes) 0 → before.bytes ≡ []
    → after ≡ N.appended before (take size bytes) → place' ≡ place + size → N.DescribesAll room a b place place' before.peak after (N.Columns count)
takes_whole room bytes count size before after h took none stands at =
    let whole : length (take size bytes) ≡ size = N.length-take-le size bytes h.3 in
    keeps_whole room bytes count size before.peak after h took (grind arith)
    (grind arith) at

-- the description that the area has comes again, and was taken
pub takes_again : (area : N.Space) (count : ℕ) (next : List ℕ) {a b : N.PayloadView} {place place' : ℕ} → IsDescription area.bytes
    → ((room : ℕ) (columns : List N.Column) → N.SpellsDescription room columns area.bytes → count ≡ length columns) → length area.bytes ≤ area.room
    → length area.bytes ≤ length next → take (length area.bytes) next ≡ area.bytes → N.Takes a b (take (length area.bytes) next) 0
    → place' ≡ place + length area.bytes → N.DescribesAll area.room a b place place' area.peak area (N.Columns count)
takes_again area count next h counts fits within same took at =
    let d = h.2 in
    let again : N.SpellsDescription area.room h.1 area.bytes =
    record { rest = d.rest; spelt = d.spelt; some = d.some; most = d.most; each = d.each; within = fits } in
    keeps_whole area.room next count (length area.bytes) area.peak area (h.1, N.sym (counts h.0 h.1 d), rw same again, within) took (N.sym same)
    (omega arith) at

-- a column is taken
pub takes_column : (room count : ℕ) (columns : List N.Column) (bytes : List ℕ) (size : ℕ) {a b : N.PayloadView} (before after : N.Space) {place place' : ℕ}
    → BeginsColumn bytes size → (length before.bytes + size) + 8 * (count - (length columns + 1)) ≤ room → N.Takes a b (take size bytes) 0
    → after ≡ N.appended before (take size bytes) → place' ≡ place + size
    → (c : N.Column) × N.Describes room (N.InColumn before.bytes count columns N.ColumnHead) a b place place' before.peak after
    (N.with_column after.bytes count columns c)
takes_column room count columns bytes size {a} {b} before after h fits took stands at =
    let whole = N.length-take-le size bytes h.2 in
    let least = N.ColumnLaws.length-SpellsColumn h.0 (take size bytes) h.1 in
    let long = N.length-append before.bytes (take size bytes) in (
      h.0,
      record {
        reads = record {
          bytes = take size bytes;
          spelt = rw stands (N.ColumnLaws.column_is_read room before.bytes count columns h.0 (take size bytes) (rw whole fits) h.1);
          takes = Takes-more a b (take size bytes) 0 _ (omega arith) took;
        };
        place_is = rw whole at;
        kept = grind arith;
        bound = grind arith;
        further = grind arith;
      },
    )
