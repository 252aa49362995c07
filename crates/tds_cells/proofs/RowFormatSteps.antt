-- A row format of columns, column by column.
use Rattle.tds_cells.proofs as N
use N.{CellFormat, Column, Cursor, IsCursor, Kind, List, [], ap, arith, drop, get_or, length, map, take, ℕ, ◌&&◌, ◌+◌, ◌<◌, ◌==◌, ◌∙◌, ◌∷◌, ◌≡◌, ◌≤◌}
use Rattle.tds_columns.specs.declared.walk.Column as walks

-- what is ahead begins with the next column
pub next_column : (columns : List Column) (k : ℕ) {c : Column} {rest : List Column} → drop k columns ≡ c ∷ rest → (k < length columns)
    × ((get_or columns k c ≡ c) × (drop (k + 1) columns ≡ rest))
next_column columns k {c} h =
    let within : k < length columns = omega (arith, N.length-drop k columns, ap length h) in
    let more = N.sym (N.drop_more columns k c within) ∙ h in
    (grind arith)

pub first_more : (formats : List CellFormat) (columns : List Column) (k : ℕ) (f : CellFormat) {c : Column} {rest : List Column} → k < length formats
    → map (λ f. f.kind) (take k formats) ≡ map (λ c. c.kind) (take k columns) → drop k columns ≡ c ∷ rest → f.kind ≡ c.kind
    → map (λ f. f.kind) (take (k + 1) (N.slice_set formats k f)) ≡ map (λ c. c.kind) (take (k + 1) columns)
first_more = grind (arith, N.common_steps, next_column)

-- whether one more column is of such a kind too
pub all_more : (of : Kind → N.Bool) (columns : List Column) (k : ℕ) {all one : N.Bool} {c : Column} {rest : List Column} → drop k columns ≡ c ∷ rest
    → all ≡ N.list_all (λ d. of d.kind) (take k columns) → one ≡ of c.kind
    → (all && one) ≡ N.list_all (λ d. of d.kind) (take (k + 1) columns)
all_more of columns k {c = c} h before is =
    let next = next_column columns k h in
    grind (arith, N.list_all_more (λ d. of d.kind) columns k c next.0)

-- the kind of a column that is known
pub known_kind : (formats : List CellFormat) (columns : List Column) (n k : ℕ) (f : CellFormat) (c : Column)
    → map (λ f. f.kind) (take n formats) ≡ map (λ c. c.kind) (take n columns) → k < n → n ≤ length formats → k < length columns
    → (get_or formats k f).kind ≡ (get_or columns k c).kind
known_kind formats columns n k f c first known some within =
    let one = N.get_or-map (λ (f : CellFormat). f.kind) (take n formats) k f f.kind (grind (arith, N.length-take)) in
    let other = N.get_or-map (λ (c : Column). c.kind) (take n columns) k c f.kind (grind (arith, N.length-take)) in
    grind (arith, N.get_or-take)

module _ (row_format : N.RowFormat) (columns : List Column) (at : Cursor) (kind : Kind) (knows : N.Knows row_format columns)
    (is : IsCursor row_format columns at) where
  -- a column that the row format knows is next
  pub next_known : (d : CellFormat) → at.column < row_format.count → at.column < row_format.known → row_format.known ≤ length row_format.formats.now
      → kind ≡ (get_or row_format.formats.now at.column d).kind → N.NextColumn columns at kind
  next_known d _ known fits is_kind =
      let within : at.column < length columns = omega arith in
      let c : Column = grind arith in
      record {
        column = get_or columns at.column c;
        rest = drop _ columns;
        next = N.drop_more columns at.column c within;
        kind = is_kind ∙ known_kind _ _ _ _ d c knows.first known fits within;
      }

module _ {row_format : N.RowFormat} {columns : List Column} {old new : Cursor} (knows : N.Knows row_format columns) (is : IsCursor row_format columns old) where
  -- the place after a column that the walk gives
  pub after_walked : new.column ≡ old.column + 1 → old.column + 1 ≤ row_format.count → row_format.known ≤ old.column
      → N.columns_left new.walk ≡ drop 1 (N.columns_left old.walk) → IsCursor row_format columns new
  after_walked further some beyond steps =
      record {
        counted = omega arith;
        within = grind arith;
        beyond = λ _. steps ∙ ap (drop 1) (is.beyond beyond) ∙ N.drop-drop 1 old.column columns
            ∙ ap (λ (n : ℕ). drop n columns) (omega arith);
      }

-- A column was taken, the next one ahead, and this is its kind.
pub record TakesColumn (row_format : N.RowFormat) (columns : List Column) (old new : Cursor) (next_kind : Kind) : Type 0 where
  pub column : Column
  pub next : drop old.column columns ≡ column ∷ drop new.column columns
  pub kind : next_kind ≡ column.kind
  pub further : new.column ≡ old.column + 1
  pub ahead : IsCursor row_format columns new

pub takes : {row_format : N.RowFormat} {columns : List Column} {old new : Cursor} {kind : Kind} → N.NextColumn columns old kind → new.column ≡ old.column + 1
    → IsCursor row_format columns new → TakesColumn row_format columns old new kind
takes = grind (arith, next_column)

-- a place in a row that isn't at its end is before it
pub not_end : (columns : List Column) {k n : ℕ} → n ≡ length columns → k ≤ length columns → (k == n) ≡ N.false → k < n
not_end = grind arith

-- a column is the last one where as many as there are lie before what is after it
pub last_one : (columns rest : List Column) (c : Column) (k n : ℕ) → n ≡ length columns → drop k columns ≡ c ∷ rest
    → (k + 1 == n) ≡ N.is_last_column rest
last_one columns [] c k n whole next = N.eq-eqb _ n (omega (arith, N.length-drop k columns, ap length next))
last_one columns (d ∷ ds) c k n whole next = N.ne_eqb _ n (λ e. omega (arith, N.length-drop k columns, ap length next))

-- none is next where as many as there are lie before
pub none_next : (columns : List Column) (k : ℕ) {n : ℕ} → n ≡ length columns → n ≤ k → drop k columns ≡ []
none_next = grind (arith, N.drop_all)
