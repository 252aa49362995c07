-- The cells of a run, as they are written one after another.
use Rattle.tds_cells.proofs as N
use N.{Bool, Cell, Charset, Column, Kind, List, PlainRow, Writes, WritesRows, [], arith, drop, length, lines, refl, row, rows, rows_so_far, take, ℕ, ◌++◌, ◌+◌}
use N.{◌-◌, ◌<◌, ◌∙◌, ◌∷◌, ◌≡◌, ◌≤◌}
use N.GrammarTexts.{writes_both, writes_inside, writes_none}

-- ---- cells of a row

-- a cell whose text comes with its last element
pub whole_of : {from : N.CellPart} {column : ℕ} {last : Bool} {bytes made : List ℕ} → N.WritesCell from column last bytes made
    → N.WritesWhole from column last bytes made
whole_of x = record {
  value = x.value;
  spelt = rw x.joined at
      (N.Spelt-append _ _ _ _ _ _ x.spelt (rw x.whole at (N.Spelt-one _ _ _ x.next)));
  text_is = x.text_is;
}

-- a scalar cell, in any set
pub writes_scalar : {set : Charset} {kind : Kind} {column : ℕ} {last : Bool} {bytes made : List ℕ}
    → ((any : Charset) → N.WritesCell (N.cell_start kind (N.shape any kind)) column last bytes made) → N.WritesKind set kind column last bytes made
writes_scalar = grind (arith, whole_of)

-- what is made after what was made
pub made_more : (made m : ℕ) (to new rest : List ℕ) → made ≤ length to → m ≤ length new
    → take (made + m) (take made to ++ (new ++ rest)) ≡ take made to ++ take m new
made_more = grind (arith, N.length-take-le, N.take-append-add, N.take-append-le)

-- the bytes that are left after so many
abbrev pub unused : ℕ → List ℕ → List ℕ
unused used bytes = take (length bytes - used) (drop used bytes)

-- what is used after what was used
pub used_more : (used u : ℕ) (bytes : List ℕ) → take (used + u) bytes ≡ take used bytes ++ take u (unused used bytes)
used_more = grind (arith, N.take-add, N.all_after)

-- what is written after what was made leaves it as it was
pub made_same : (made : ℕ) (to rest : List ℕ) → made ≤ length to → take made (take made to ++ rest) ≡ take made to
made_same = grind (arith, N.take-append-le, N.length-take-le, N.take_all)

pub scalar_whole : (kind : Kind) (bytes : List ℕ) → N.is_scalar kind ≡ N.true → N.whole_size kind bytes ≡ N.scalar_size kind bytes
scalar_whole = grind arith

-- it is left as a scalar cell is
pub scalar_left : (set : Charset) (kind : Kind) (bytes : List ℕ) (room : ℕ) → N.is_scalar kind ≡ N.true → N.IsLeft set kind bytes room
    → N.IsScalarLeft kind bytes
scalar_left = grind arith

-- a cell has some bytes
pub whole_some : (kind : Kind) (bytes : List ℕ) → 0 < N.whole_size kind bytes
whole_some = grind arith

-- ---- over the ends of rows

pub lines-append : (rs qs : List (List Cell)) → lines (rs ++ qs) ≡ lines rs ++ lines qs
lines-append [] qs = refl
lines-append (r ∷ rs) qs = N.ap (λ l. N.line (N.map N.field r) ++ l) (lines-append rs qs) ∙ N.sym (N.append_assoc _ (lines rs) (lines qs))

-- some columns are to come, so no line ends there
pub start_text : (token : N.RowToken) (charset : Charset) (columns : List Column) → 0 < length columns → N.row_so_far (N.row_start token charset columns) ≡ []
start_text PlainRow _ [] some = grind arith
start_text PlainRow _ (c ∷ cs) _ = grind arith
start_text N.NbcRow _ _ _ = refl

module _ (token : N.RowToken) (charset : Charset) (all : List Column) (before : List (List Cell)) where
  pub row_among_rows : N.Inside (row charset) (rows token charset all) (λ p. record { before = before; at = p })
  row_among_rows = grind arith

  -- what is written of a row is written of the rows
  pub row_among : {p q : N.RowPart} {bytes made : List ℕ} → Writes (row charset) N.row_so_far p bytes made q
      → Writes (rows token charset all) rows_so_far (record { before = before; at = p }) bytes made (record { before = before; at = q })
  row_among x = writes_inside {text = N.row_so_far} {whole = rows_so_far} _ row_among_rows (λ p. refl) x

  -- the token byte of the next row
  pub row_token : (cells : List Cell) → 0 < length all
      → Writes (rows token charset all) rows_so_far (record { before = before; at = N.WholeRow cells }) (N.token_byte token ∷ []) []
      (record { before = before ++ cells ∷ []; at = N.row_start token charset all })
  row_token = grind (arith, N.Spelt-one, N.append-nil, lines-append, start_text)

-- ---- cells of the last row

-- a cell that lies whole, by itself
pub cell_writes : {column : ℕ} {last : Bool} {bytes made : List ℕ} (kind : Kind) (sh : N.Shape)
    → (x : N.WritesWhole (N.cell_start kind sh) column last bytes made)
    → Writes (N.cell column) (N.cell_so_far column last) (N.cell_start kind sh) bytes made (N.WholeCell x.value)
cell_writes = grind arith

-- a cell after these, in its row
after_more : {bytes made : List ℕ} {v : Cell} (charset : Charset) (cells : List Cell) (c : Column) (left : List Column)
    → Writes (N.cell (length cells)) (N.cell_so_far (length cells) (N.is_last_column left)) (N.cell_start c.kind (N.shape charset c.kind)) bytes made
    (N.WholeCell v)
    → Writes (row charset) N.row_so_far (N.after_cells charset cells (c ∷ left)) bytes made (N.after_cells charset (cells ++ v ∷ []) left)
after_more {v = v} charset cells c left x =
    let n = length cells + 1 in
    rw (N.length-append cells (v ∷ [])) (N.RowTexts.row_cell _ _ _ c (N.RowTexts.none_ahead _ n) (grind arith))

pub rows_none : {charset : Charset} {all : List Column} {cells : List Cell} {columns : List Column} {column : ℕ} → length cells ≡ column
    → WritesRows charset all cells columns columns column 0 [] []
rows_none {cells = cells} h = record { before = []; more = cells; rows_counted = refl; counted = h; writes = writes_none }

-- the token byte of a ROW is next
begins_at : (used : ℕ) (bytes : List ℕ) → N.BeginsRow (unused used bytes) → (used < length bytes) × (N.get_or bytes used 0 ≡ 0xD1)
begins_at = grind (arith, N.drop_more)

module _ {charset : Charset} {all : List Column} {cells : List Cell} {columns : List Column} {count : ℕ} where
  column_writes : {a b p q : List ℕ} (at : ℕ) → WritesRows charset all cells columns (drop at all) at count a p
      → N.WritesColumn charset all (λ k. N.false) at b q → WritesRows charset all cells columns (drop (at + 1) all) (at + 1) count (a ++ b) (p ++ q)
  column_writes at x w =
      let z = rw (N.sym x.counted) at (w.cell refl) in
      record {
        before = x.before;
        more = x.more ++ z.value ∷ [];
        rows_counted = x.rows_counted;
        counted = omega (arith, N.length-append x.more (z.value ∷ []));
        writes = writes_both (rw w.next at x.writes) (row_among PlainRow charset all x.before (rw (N.RowFormatSteps.next_column all at w.next).1.1
            (after_more charset x.more w.column w.left (cell_writes w.column.kind _ z))));
      }

  pub marked_writes : {a p : List ℕ} (at n : ℕ) (b q : List ℕ) → WritesRows charset all cells columns (drop at all) at count a p
      → N.WritesMarked charset all (λ k. N.false) at n b q → WritesRows charset all cells columns (drop (at + n) all) (at + n) count (a ++ b) (p ++ q)
  marked_writes at N.zero b q x w = rw (w.0, w.1, N.append-nil, N.append-nil, N.add-zero) x
  marked_writes at (N.suc n) b q x w =
      let further : (at + n) + 1 ≡ at + N.suc n = omega arith in
      rw (w.4, w.5, ← N.append_assoc, ← N.append_assoc) (rw further at (column_writes _ (marked_writes at n w.0 w.2 x w.6) w.7))

  -- and then the token byte of the next row
  rows_next : {column : ℕ} {a p : List ℕ} → 0 < length all → WritesRows charset all cells columns [] column count a p
      → WritesRows charset all cells columns all 0 (count + 1) (a ++ 0xD1 ∷ []) p
  rows_next {p = p} some x = record {
    before = x.before ++ x.more ∷ [];
    more = [];
    rows_counted = omega (arith, N.length-append x.before (x.more ∷ []));
    counted = refl;
    writes = rw (N.append-nil p) at (writes_both x.writes (row_token PlainRow charset all x.before x.more some));
  }

  pub rows_onward : {left : List Column} {column : ℕ} {p : List ℕ} (used : ℕ) (bytes : List ℕ) → 0 < length all → left ≡ [] → N.BeginsRow (unused used bytes)
      → WritesRows charset all cells columns left column count (take used bytes) p
      → WritesRows charset all cells columns all 0 (count + 1) (take (used + 1) bytes) p
  rows_onward = grind (arith, begins_at, rows_next, N.take_more)

-- ---- rows after rows

module _ (charset : Charset) (all : List Column) (before : List (List Cell)) where
  abbrev after_rows : N.RowsPart → N.RowsPart
  after_rows p = record { before = before ++ p.before; at = p.at }

  pub rows_after : {p q : N.RowsPart} {bytes made : List ℕ} → Writes (rows PlainRow charset all) rows_so_far p bytes made q
      → Writes (rows PlainRow charset all) rows_so_far (after_rows p) bytes made (after_rows q)
  rows_after = writes_inside {lift = after_rows} {text = rows_so_far} {whole = rows_so_far} (lines before) (grind (arith, N.append_assoc))
      (grind (arith, N.append_assoc, lines-append))

-- rows, and then more of the last and those after it
pub rows_both : {charset : Charset} {all : List Column} {cells : List Cell} {columns left left' : List Column} {column column' count count' : ℕ}
    {a b m n : List ℕ} → (x : WritesRows charset all cells columns left column count a m)
    → WritesRows charset all x.more left left' column' count' b n → WritesRows charset all cells columns left' column' (count + count') (a ++ b) (m ++ n)
rows_both {charset = charset} {all = all} x y = record {
  before = x.before ++ y.before;
  more = y.more;
  rows_counted = omega (arith, N.length-append x.before y.before);
  counted = y.counted;
  writes = writes_both x.writes (rw N.append-nil at (rows_after charset all x.before y.writes));
}
