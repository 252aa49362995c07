-- Runs of cells over the columns that a row format knows: more cells after those that were written.
use Rattle.tds_cells.proofs as N
use N.{Bool, Column, Cursor, IsCursor, KnownRan, KnownRun, List, Ran, RowFormat, RunsMarked, Unmarked, Walk, arith, drop, false, length, map, suc, sym, take, ℕ}
use N.{◌++◌, ◌+◌, ◌-◌, ◌<◌, ◌==◌, ◌∷◌, ◌≡◌, ◌≤◌}
use N.RunSteps.{made_more, marked_writes, rows_both, rows_none, rows_onward, unused, used_more}

pub rows_begin : {row_format : RowFormat} {from : Cursor} {bytes to : List ℕ}
    → Ran row_format Unmarked from from bytes to (record { used = 0; made = 0; rows = 0 })
rows_begin = grind (arith, rows_none)

-- one row more, after its token byte
pub row_begun : {row_format : RowFormat} {from start at : Cursor} {bytes to : List ℕ} {run : N.RowsSpan} → 0 < row_format.count
    → row_format.count ≤ at.column
    → N.BeginsRow (unused run.used bytes) × (start.column ≡ 0)
    → ((columns : List Column) → N.Knows row_format columns → IsCursor row_format columns at → IsCursor row_format columns start)
    → Ran row_format Unmarked from at bytes to run → Ran row_format Unmarked from start bytes to
    (record { used = run.used + 1; made = run.made; rows = run.rows + 1 })
row_begun {bytes = bytes} {run = run} some end (begins, first) ahead x = record {
  used = grind arith;
  made = x.made;
  few = omega arith;
  writes = λ columns knows is.
      let y = x.writes columns knows is in (
        ahead columns knows y.0,
        λ charset cells set counted. rw first
            (rows_onward run.used bytes (omega arith) (N.RowFormatSteps.none_next columns _ knows.counted end) begins (y.1 charset cells set counted)),
      );
}

-- more cells of the last row, in the bytes that are left and after what was made
pub rows_more : {row_format : RowFormat} {from at new : Cursor} {bytes to : List ℕ} {run : N.RowsSpan} (u made : ℕ) (text after : List ℕ) → 0 < u
    → u ≤ length (unused run.used bytes) → made ≤ length after → take made after ≡ take run.made to ++ text
    → N.CellsWritten row_format (λ k. false) at new (take u (unused run.used bytes)) text → Ran row_format Unmarked from at bytes to run
    → Ran row_format Unmarked from new bytes after (record { used = run.used + u; made = made; rows = run.rows })
rows_more {bytes = bytes} {run = run} u _ _ _ _ within fits is gives x = record {
  used = grind (arith, N.length-take);
  made = fits;
  few = omega arith;
  writes = λ columns knows begun.
      let y = x.writes columns knows begun in
      rw (used_more run.used u bytes, is) (grind (arith, marked_writes));
}

-- ---- the cells of an NBCROW

module _ (charset : N.Charset) (columns : List Column) where
  -- so many columns, and then so many more
  marked_both : (nulls : ℕ → Bool) (from n m : ℕ) (a b p q : List ℕ) → N.WritesMarked charset columns nulls from n a p
      → N.WritesMarked charset columns nulls (from + n) m b q → N.WritesMarked charset columns nulls from (n + m) (a ++ b) (p ++ q)
  marked_both _ _ n N.zero a b p q x y = search N.rules
  marked_both nulls from n (suc m) a b p q x y =
      let at : (from + n) + m ≡ from + _ = omega arith in
      let counted : suc _ ≡ n + suc m = omega arith in
      rw (sym counted) (
        a ++ y.0,
        y.1,
        p ++ y.2,
        y.3,
        rw (y.4, N.append_assoc),
        rw (y.5, N.append_assoc),
        marked_both nulls from n m a y.0 p y.2 x y.6,
        rw at at y.7,
      )

  -- columns whose bits are clear
  pub marked_clear : (nulls : ℕ → Bool) (from n : ℕ) (bytes text : List ℕ) → ((k : ℕ) → from ≤ k → k < from + n → nulls k ≡ false)
      → N.WritesMarked charset columns (λ k. false) from n bytes text → N.WritesMarked charset columns nulls from n bytes text
  marked_clear _ _ N.zero _ _ _ x = x
  marked_clear nulls from (suc n) _ _ clear x =
      let last = x.7 in
      let set = clear (from + n) (omega arith) (omega arith) in
      let one : N.WritesColumn charset columns nulls (from + n) x.1 x.3 =
      record { column = last.column; left = last.left; next = last.next; null = λ is. absurd (cc); cell = λ _. last.cell N.refl } in
      (x.0, x.1, x.2, x.3, x.4, x.5, marked_clear _ _ n _ _ (grind arith) x.6, one)

module _ {row_format : RowFormat} {columns : List Column} {nulls : ℕ → Bool} {at : Cursor} where
  pub runs_column : {after : Cursor} {kind : N.Kind} {last : Bool} {bytes text : List ℕ} → N.RowFormatSteps.TakesColumn row_format columns at after kind
      → last ≡ N.is_last_column (drop after.column columns) → nulls at.column ≡ false
      → N.WritesWhole (N.cell_start kind (N.shape row_format.charset kind)) at.column last bytes text → RunsMarked row_format columns nulls at after bytes text
  runs_column {bytes = bytes} {text = text} taken end clear whole =
      let one : N.WritesColumn _ columns nulls _ bytes text =
      record { column = taken.column; left = drop _ columns; next = taken.next; null = λ is. absurd (cc); cell = λ _. rw (taken.kind, end) at whole } in
      grind arith

module _ {row_format : RowFormat} {columns : List Column} {nulls : ℕ → Bool} {from to : Cursor} where
  -- a run over columns whose bits are clear
  pub runs_clear : {bytes text : List ℕ} → ((k : ℕ) → from.column ≤ k → k < to.column → nulls k ≡ false)
      → RunsMarked row_format columns (λ k. false) from to bytes text → RunsMarked row_format columns nulls from to bytes text
  runs_clear = grind (arith, marked_clear)

  -- more cells, in the bytes that are left and after what was made
  pub runs_more : (at : Cursor) (used u made m : ℕ) (bytes text new cells : List ℕ) → take m new ≡ take made text ++ cells
      → RunsMarked row_format columns nulls from at (take used bytes) (take made text)
      → RunsMarked row_format columns nulls at to (take u (unused used bytes)) cells
      → RunsMarked row_format columns nulls from to (take (used + u) bytes) (take m new)
  runs_more at used u made m bytes text new cells is x y = record {
    count = x.count + y.count;
    ahead = y.ahead;
    further = omega arith;
    writes = rw (is, used_more used u bytes) (marked_both _ _ nulls from.column x.count y.count _ _ _ _ x.writes (rw x.further at y.writes));
  }

-- a run ended before a column whose bit is clear
pub ends_clear : (row_format : RowFormat) (nulls : ℕ → Bool) (at : Cursor) (bytes : List ℕ) (room : ℕ) → nulls at.column ≡ false
    → N.EndsLeft row_format (λ k. false) at bytes room
    → N.EndsLeft row_format nulls at bytes room
ends_clear _ _ at bytes room clear x columns column left knows ahead next = let y = x columns column left knows ahead next in grind arith

-- ---- the formats of the next columns

-- some of the first ones
part_of : {A B : Type 0} (k n known : ℕ) (f : A → B) (xs : List A) → k + n ≤ known
    → map f (take n (drop k xs)) ≡ drop k (take (k + n) (map f (take known xs)))
part_of = grind (arith, N.take-map, N.drop-map, N.take-take, N.drop-take)

-- those that a row format knows, from a place in a row on
pub known_ahead : (row_format : RowFormat) (at : Cursor) (end n : ℕ) → 0 < n → at.column + n ≤ end → at.column + n ≤ row_format.known
    → N.AreAtCursor row_format at end (take n (drop at.column row_format.formats.now))
known_ahead row_format at end n some within known =
    let laid = row_format.laid in
    let len = N.length-take-le n (drop at.column row_format.formats.now) (grind (arith, N.length-drop)) in
    record {
      laid = grind (arith, N.common_steps);
      some = omega arith;
      within = omega arith;
      known = grind arith;
      next = λ columns knows ahead. rw (len, part_of at.column n _ (λ f. f.kind) row_format.formats.now known, knows.first)
          (sym (part_of at.column n _ (λ c. c.kind) columns known));
    }

module _ {row_format : RowFormat} {from : Cursor} {end : ℕ} {formats : List N.CellFormat} (ahead : N.AreAtCursor row_format from end formats) where
  -- what was written by them is between two places of the row
  formats_between : {columns : List Column} {to : Cursor} {ends : Bool} {bytes text : List ℕ} {room : ℕ} {run : N.FormatsRun}
      → ends ≡ (from.column + length formats == row_format.count) → N.Knows row_format columns → IsCursor row_format columns from
      → to.column ≡ from.column + run.cells → IsCursor row_format columns to
      → N.RunsFormats row_format.charset formats from.column ends bytes room text run
      → RunsMarked row_format columns (λ k. false) from to (take run.used bytes) (take run.made text)
  formats_between {columns} {run = run} end knows is further there x =
      let whole = N.length-drop from.column columns in
      record { count = run.cells; ahead = there; further = further; writes = x.cells columns (ahead.next columns knows is) (grind arith) }

  -- the next cell is left as the first of them is
  pub first_left : {bytes : List ℕ} {room : ℕ} → N.FirstLeft row_format.charset formats bytes room → N.EndsLeft row_format (λ k. false) from bytes room
  first_left x columns column left knows is step =
      let first = N.FormatSteps.some_first _ ahead.some in
      let y = x first.0 first.1 first.2 in
      grind arith

  -- the cell after so many is left as the first of the others is
  pub next_left : {bytes : List ℕ} {room : ℕ} (to : Cursor) (k : ℕ) → to.column ≡ from.column + k
      → N.FirstLeft row_format.charset (drop k formats) bytes room → N.LeavesNext row_format from to (from.column + length formats) bytes room
  next_left to k further x columns column left knows is some step =
      let (format, rest, are) = N.FormatSteps.some_first (drop k formats) (omega (arith, N.length-drop k formats)) in
      let next = drop from.column columns in
      let there : drop k next ≡ column ∷ left = grind (arith, N.drop-drop) in
      let second = N.RowFormatSteps.next_column next k there in
      let place : k ≡ k + 0 = omega arith in
      let first : N.get_or formats k format ≡ format = grind (arith, N.get_or-drop) in
      let kinds_are : map (λ f. f.kind) (take (length formats) formats) ≡ map (λ c. c.kind) (take (length formats) next) = grind (arith, N.take_all) in
      let kind_is = N.RowFormatSteps.known_kind formats next (length formats) k format column kinds_are (omega arith) (omega arith) second.0 in
      let y = x format rest are in
      grind arith

-- ---- rows that are far from the ends

-- two places of a row, all of whose columns the row format knows, are ahead alike
pub place_known : (row_format : RowFormat) (from : Cursor) (a b : ℕ) → row_format.known ≡ row_format.count → b ≤ row_format.count
    → (columns : List Column) → N.Knows row_format columns → IsCursor row_format columns (record from { column = a })
    → IsCursor row_format columns (record from { column = b })
place_known = grind arith

abbrev known_span : KnownRun → N.RowsSpan
known_span run = record { used = run.used; made = run.made; rows = run.rows }

module _ {row_format : RowFormat} {column : ℕ} {bytes to : List ℕ} where
  pub ran_at : {run : KnownRun} → KnownRan row_format column bytes to run
      → (walk : Walk) → Ran row_format Unmarked (N.place walk column) (N.place walk run.column) bytes to (known_span run)
  ran_at = grind arith

  pub known_ran : {run : KnownRun} → ((walk : Walk) → Ran row_format Unmarked (N.place walk column) (N.place walk run.column) bytes to (known_span run))
      → KnownRan row_format column bytes to run
  known_ran x = let y = x row_format.rest in record { used = y.used; made = y.made; few = y.few; writes = λ walk. (x walk).writes }

  pub known_begin : KnownRan row_format column bytes to (record { used = 0; made = 0; rows = 0; column = column })
  known_begin = known_ran (λ walk. rows_begin)

  -- one row more, after its token byte
  pub known_begun : {run : KnownRun} → row_format.known ≡ row_format.count → 0 < row_format.count → row_format.count ≤ run.column
      → N.BeginsRow (unused run.used bytes) → KnownRan row_format column bytes to run
      → KnownRan row_format column bytes to (record { used = run.used + 1; made = run.made; rows = run.rows + 1; column = 0 })
  known_begun {run} all some end begins x = known_ran (λ walk. row_begun some end (begins, N.refl)
      (place_known row_format (N.place walk run.column) run.column 0 all (omega arith)) (ran_at x walk))

  -- what stands after what was made may be another
  pub known_kept : {new : List ℕ} {run : KnownRun} → length new ≡ length to → take run.made new ≡ take run.made to
      → KnownRan row_format column bytes to run → KnownRan row_format column bytes new run
  known_kept = grind arith

  -- a run, and then another from where it ended
  pub known_further : {run more : KnownRun} (text rest : List ℕ) → KnownRan row_format column bytes to run
      → KnownRan row_format run.column (unused run.used bytes) text more
      → KnownRan row_format column bytes (take run.made to ++ (text ++ rest))
      (record { used = run.used + more.used; made = run.made + more.made; rows = run.rows + more.rows; column = more.column })
  known_further {run} {more} text rest x y = record {
    used = grind (arith, N.length-take);
    made = grind (arith, N.length-append, N.length-take-le);
    few = omega arith;
    writes = λ walk columns knows begun.
        let (ahead, first) = x.writes walk columns knows begun in
        let (there, then_more) = y.writes walk columns knows ahead in (
          there,
          λ charset cells set counted.
              let w = first charset cells set counted in
              rw (used_more run.used more.used bytes, made_more run.made more.made to text rest x.made y.made)
              (rows_both w (then_more charset w.more set w.counted)),
        );
  }

-- a run over the formats of the rest of the last row
pub known_formats : {row_format : RowFormat} {column used column' : ℕ} {bytes to : List ℕ} {run : KnownRun} (formats : List N.CellFormat) (more : N.FormatsRun)
    (room made : ℕ) (text new : List ℕ) → row_format.known ≡ row_format.count
    → ((walk : Walk) → N.AreAtCursor row_format (N.place walk run.column) row_format.count formats)
    → run.column + length formats ≡ row_format.count → 0 < more.cells → made ≤ length new → take made new ≡ take run.made to ++ take more.made text
    → used ≡ run.used + more.used → column' ≡ run.column + more.cells
    → N.RunsFormats row_format.charset formats run.column N.true (unused run.used bytes) room text more → KnownRan row_format column bytes to run
    → KnownRan row_format column bytes new (record { used = used; made = made; rows = run.rows; column = column' })
known_formats {row_format} {run = run} formats more room made text new all ahead whole some fits is used_is column_is written x =
    rw (used_is, column_is) (known_ran (λ walk.
    let to = N.place walk (run.column + more.cells) in
    rows_more {new = to} {run = known_span run} more.used made (take more.made text) new (written.within.some some) written.within.used fits is
    (λ columns knows there. formats_between (ahead walk) (sym (N.eq-eqb _ _ whole)) knows there N.refl (grind arith) written) (ran_at x walk)))

-- a whole row more, whose place is counted from the front of all
pub row_far : {bytes to : List ℕ} {rows used made : ℕ} (row_format : RowFormat) (row : List N.CellFormat) (run : N.FormatsRun) (new : List ℕ)
    → row_format.known ≡ row_format.count → 0 < row_format.count → row ≡ take row_format.known row_format.formats.now → run.cells ≡ row_format.count
    → take made new ≡ take made to → length new ≡ length to → (used ≤ run.used) × (made ≤ run.made)
    → N.RunsFormats row_format.charset row 0 N.true (drop used bytes) (length to - made) (drop made new) (N.run_since (record { used = used; made = made }) run)
    → KnownRan row_format 0 bytes to (record { used = used; made = made; rows = rows; column = 0 })
    → KnownRan row_format 0 bytes new (record { used = run.used; made = run.made; rows = rows; column = row_format.count })
row_far {bytes = bytes} {to = to} {used = u} {made = m} row_format row run new all some are whole same size begun written x =
    let text = N.take-add m (run.made - m) new in
    known_formats row (N.run_since (record { used = u; made = m }) run) (length to - m) run.made (drop m new) new all (λ walk. rw are (known_ahead row_format
    (N.place walk 0) row_format.count row_format.known (omega arith) (omega arith) (omega arith)))
    (omega (arith, N.ap length are, N.length-take-le row_format.known row_format.formats.now row_format.there))
    (omega arith) (omega (arith, written.within.made, N.length-drop m new)) (grind arith) (omega arith) (omega arith) (rw (N.all_after bytes u) written) x
