-- Rows with NULLs by their bit, column after column, as they are read and their text is put.
use Rattle.tds_rows.proofs as N
use N.{◌≡◌, inr, ℕ, ◌+◌, ◌-◌, ◌<◌, Bool, false, List, [], ◌∷◌, ◌++◌, length, sym, arith, Column, Charset, Cell, CellPart, RowPart, row_so_far}
use N.Words.{row}
use N.RowSteps.{PutsAt, cell_some, StopsCell}
use N.Paths.{At, Breaks, Halt, Path, RowStops, path_none, path_of, streams_of, over, until}
use Rattle.tds_cells.proofs.RowTexts.{begun_text, ends, line_grows, nulls_ahead, nulls_text, part_text, rest_of, row_cell}
use Rattle.tds_cells.proofs.RowLaws.{begins_open, cell_in_row}

-- ---- a cell in its row, with the NULLs after it

module _ (charset : Charset) (cells : List Cell) (ks : List (Column × Bool)) where
  abbrev small : N.Grammar CellPart N.Fault
  small = N.Words.cell (length cells)

  abbrev big : N.Grammar RowPart N.Fault
  big = row charset

  abbrev up : CellPart → RowPart
  up = N.with_cell charset cells ks

  abbrev text : CellPart → List ℕ
  text = N.cell_so_far (length cells) (ends ks)

  abbrev front : List ℕ
  front = N.joined (N.map N.field cells)

  -- the cell stopped, and so the row
  stops_there : {from : CellPart} {p : At} {e : Halt} → 0 < N.cell_size from → until (N.StopsStreaming small text from) p e
      → until (N.StopsStreaming big row_so_far (up from)) p e
  stops_there some x =
      let is = cell_in_row charset cells ks in
      record {
        at = up x.at;
        cause = elim x.cause [
          | N.inl y ↦ N.inl (
            N.stops_inside _ _ up is _ _ _ _ _ _ (grind arith) y.0,
            (y.1.0, (let size = N.stops_size _ _ _ _ _ _ _ y.0 in grind (arith, begun_text, N.append_assoc)), y.1.2),
            y.2,
          )
          | inr y ↦
              let z = y.0 in
              let size = N.next_some small x.at z.element z.next in
              let to = N.cell_add x.at z.element in
              let same = is.add x.at z.element size in
              let whole = part_text charset cells ks to in
              inr (
                record {
                  bytes = z.bytes;
                  element = z.element;
                  ahead = z.ahead;
                  spelt = N.Inside-Spelt _ _ up is _ _ _ z.spelt;
                  next = grind arith;
                  takes = z.takes;
                  between = z.between;
                  middle = z.middle;
                  few = z.few;
                  puts = (z.puts.0, grind (arith, begun_text, N.append_assoc), z.puts.2);
                  more = z.more ++ rest_of charset cells ks to;
                  text_is = grind (arith, begun_text, N.append_assoc);
                  breaks = N.WritesPrefix-longer _ _ _ _ _ z.breaks;
                },
                y.1,
              )
        ];
      }

  pub marked_stops : {column : ℕ} {p : At} {e : Halt} (c : Column) → length cells ≡ column → until (StopsCell charset c.kind column (ends ks)) p e
      → until (RowStops charset (N.InCell cells (N.cell_start c.kind (N.shape charset c.kind)) ks)) p e
  marked_stops c counted x = rw (← begins_open charset cells ks c.kind _) (stops_there (grind arith) (rw (sym counted) at x))

-- ---- column after column

-- The first cells of a row were read and their text put, and these columns are left.
pub record Reads (charset : Charset) (start : RowPart) (left : List (Column × Bool)) (p q : At) (column : ℕ) : Type 0 where
  pub cells : List Cell
  pub counted : length cells ≡ column
  pub path : Path (row charset) row_so_far start p q (N.next_cell charset cells left)

-- The first cells of a row were read, and their text put but for that of the NULLs by their bit at the front of the columns that are left.
pub record NearsCells (charset : Charset) (start : RowPart) (left : List (Column × Bool)) (p q : At) (column : ℕ) : Type 0 where
  pub cells : List Cell
  pub counted : length cells ≡ column
  pub nears : N.LacksTail (row charset) row_so_far start p.seen q.seen p.held q.held (N.next_cell charset cells left) (nulls_ahead column left)
  pub place_is : q.place ≡ p.place + length (nears.bytes ++ nears.element)

-- some columns are left, so the line doesn't end there
all_ahead : (charset : Charset) (columns : List Column) (nulls : ℕ → Bool) → 0 < length columns
    → nulls_ahead 0 (N.marked columns nulls 0) ≡ row_so_far (N.next_cell charset [] (N.marked columns nulls 0))
all_ahead _ [] nulls some = grind arith
all_ahead _ (c ∷ cs) _ _ = grind (arith, nulls_text)

-- the bitmap was read
pub bitmap_nears : {charset : Charset} {p : At} {b : N.PayloadView} {place' : ℕ} (columns : List Column) (bitmap : List ℕ) → 0 < length columns
    → length bitmap ≡ N.bitmap_length (length columns) → N.Takes p.seen b bitmap (length bitmap) → N.IsBetween b → N.HasRoom p.held
    → N.Counts p.held
    → place' ≡ p.place + length bitmap → NearsCells charset (N.Bitmap columns) (N.marked columns (N.bit bitmap) 0) p
    (record { seen = b; place = place'; held = p.held }) 0
bitmap_nears {p = p} _ bitmap some whole takes between few d at =
    let next : N.IsNext _ _ bitmap = grind arith in
    record {
      cells = [];
      counted = N.refl;
      nears = N.nears_from _ _ _ _ _ _ _ _ _ _ _ (streams_of (path_none {p = p} d)) next takes between few d (all_ahead _ _ _ some);
      place_is = at;
    }

-- a cell was read and its text put, in its row, and no NULL by its bit is after it
pub cell_path : {ks : List (Column × Bool)} {column : ℕ} {p q : At} (charset : Charset) (c : Column) {cells : List Cell} → length cells ≡ column
    → nulls_ahead (column + 1) ks ≡ [] → PutsAt charset c.kind column (ends ks) p q
    → (v : Cell) × Path (row charset) row_so_far (N.next_cell charset cells ((c, false) ∷ ks)) p q (N.next_cell charset (cells ++ v ∷ []) ks)
cell_path _ c counted none y =
    let z = rw (sym counted) at y in
    (z.value, N.Paths.path_map (λ a m. row_cell _ _ _ c (rw counted none)) (grind arith))

module _ {charset : Charset} {start : RowPart} {c : Column} {ks : List (Column × Bool)} {p q : At} {column : ℕ} where
  -- a NULL by its bit was put
  pub null_nears : {j : N.SinkView} → NearsCells charset start ((c, N.true) ∷ ks) p q column → N.Puts q.held j (N.in_line column (ends ks) N.null_field)
      → NearsCells charset start ks p (record q { held = j }) (column + 1)
  null_nears x puts = record {
    cells = x.cells ++ N.Null ∷ [];
    counted = grind (arith, N.length-append);
    nears = grind (arith, N.nears_put);
    place_is = x.place_is;
  }

  -- a write of it failed, after more was read
  pub null_breaks : {e : Halt} {rest : List ℕ} → NearsCells charset start ((c, N.true) ∷ ks) p q column
      → Breaks q e [] rest (N.in_line column (ends ks) N.null_field) → until (RowStops charset start) p e
  null_breaks {e} {rest = rest} x y =
      let n = x.nears in
      let broken = N.nears_breaks _ _ _ _ _ _ _ _ _ _ _ _ _ n N.refl y.breaks in
      let z = broken.1 in
      let both = N.Takes-trans p.seen q.seen e.seen (n.bytes ++ n.element) rest _ 0 (omega arith) n.takes y.takes in
      record {
        at = broken.0;
        cause = inr (
          record {
            bytes = n.bytes;
            element = n.element;
            ahead = rest;
            spelt = z.spelt;
            next = z.next;
            takes = grind arith;
            between = y.between;
            middle = z.middle;
            few = z.few;
            puts = z.puts;
            more = z.more;
            text_is = z.text_is;
            breaks = z.breaks;
          },
          y.failed,
        );
      }

  -- a cell was read and its text put, and no NULL by its bit is after it
  pub cell_reads : {r : At} → nulls_ahead (column + 1) ks ≡ [] → Reads charset start ((c, false) ∷ ks) p q column
      → PutsAt charset c.kind column (ends ks) q r → Reads charset start ks p r (column + 1)
  cell_reads none x y =
      let one = cell_path _ c x.counted none y in
      record { cells = x.cells ++ one.0 ∷ []; counted = grind (arith, N.length-append); path = N.Paths.path_both x.path one.1 }

  pub cell_stops : {e : Halt} → Reads charset start ((c, false) ∷ ks) p q column → until (StopsCell charset c.kind column (ends ks)) q e
      → until (RowStops charset start) p e
  cell_stops x y = N.Paths.path_stops x.path (marked_stops _ _ _ c x.counted y)

  -- a cell was read and its text put, and NULLs may be after it
  pub cell_nears : {r : At} → N.IsBetween r.seen → N.HasRoom r.held → Reads charset start ((c, false) ∷ ks) p q column
      → PutsAt charset c.kind column (ends ks) q r → NearsCells charset start ks p r (column + 1)
  cell_nears {r = r} between few x y =
      let n = length x.cells in
      let z = rw (sym x.counted) at y in
      let some : 0 < length z.streams.bytes = omega (arith, cell_some) in
      let begin = N.cell_start c.kind _ in
      let tail = nulls_ahead _ ks in
      let whole =
      N.nears_inside _ _ _ (cell_in_row charset x.cells ks) _ _ _ (begun_text charset x.cells ks) (line_grows n _) begin _ _ _ _ _ tail
      z.streams some between few (part_text charset x.cells ks (N.WholeCell z.value)) in
      let joined = (N.last_read _ begin _ _ z.streams.spelt some).joined in
      let begun = rw (sym (begins_open charset x.cells ks c.kind (N.shape charset c.kind))) at x.path in
      let near : NearsCells charset start ks p r _ = record {
        cells = x.cells ++ z.value ∷ [];
        counted = N.length-append x.cells _;
        nears = N.nears_after _ _ start _ p.seen q.seen r.seen p.held q.held r.held _ tail (streams_of begun) whole;
        place_is = omega (arith, N.length-append {A = ℕ}, N.ap length joined);
      } in
      rw x.counted at near

module _ {charset : Charset} {start : RowPart} {ks : List (Column × Bool)} {p q : At} {column : ℕ} where
  -- no NULL by its bit is next, so all text was put
  pub all_put : nulls_ahead column ks ≡ [] → N.Counts q.held → NearsCells charset start ks p q column → Reads charset start ks p q column
  all_put none d x =
      let last : N.Puts q.held q.held _ = rw none (N.Puts-none q.held d) in
      record { cells = x.cells; counted = x.counted; path = path_of (N.nears_done _ _ start p.seen q.seen p.held q.held q.held _ _ x.nears last) x.place_is }

-- after the last column of a row
pub row_ends : {charset : Charset} {start : RowPart} {p q : At} {column : ℕ} → Reads charset start [] p q column → over (N.ReadsRow charset start) p q
row_ends x = record { cells = x.cells; streams = grind arith; place_is = cc }
