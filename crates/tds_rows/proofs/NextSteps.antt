-- The next cells of a row, those of a run or one, NULL or not, and rows one after another.
use Rattle.tds_rows.proofs as N
use N.{arith, ◌≡◌, ◌+◌, ◌*◌, ℕ, Bool, true, false, List, ◌∷◌, drop, refl, Err, Ok, ◌==◌, Stop, seen, Column, held, Rows, Cursor, RowPart, marked, ◌∙◌, ◌-◌, ◌≤◌}
use N.{◌<◌, [], ◌++◌, length, ap, before, ⊤, ◌⊎◌, inl, Takes, Puts, Charset, Cell, Knows, Counts, inr, LeavesRows, RowToken, rows_so_far, ReadsRows, sym, Nulls}
use N.{Bitmap, bit}
use N.Words.{rows}
use N.NullSteps.{NearsCells, all_put, bitmap_nears, cell_nears, cell_stops, null_breaks, null_nears, cell_path, row_ends}
use N.Paths.{At, Breaks, Halt, halt, Path, RowStops, path_both, path_map, path_of, over, until}
use Rattle.tds_packet.specs.declared.payload.Payload.{Payload}
use Rattle.tds_cells.proofs.GrowingTexts.{rows_grow}
use Rattle.tds_cells.proofs.RowTexts.{ends, ends_marked, coming, nulls_ahead, none_ahead}
use Rattle.tds_cells.proofs.GrammarTexts.{writes_none}
use Rattle.tds_cells.proofs.RowFormatSteps.{TakesColumn, last_one, next_column}
use Rattle.tds_cells.proofs.RunSteps.{rows_after, row_among, row_token}

-- ---- what was read and put at once could have been so one after the other

-- Bytes were handed out without a packet, and text was put that waits.
pub record Passes (p q : At) (bytes text : List ℕ) : Type 0 where
  pub takes : Takes p.seen q.seen bytes 0
  pub between : N.IsBetween q.seen
  pub puts : Puts p.held q.held text
  pub few : N.HasRoom q.held
  pub delivered : Counts p.held
  pub place_is : q.place ≡ p.place + length bytes

-- what was handed out, in two parts
takes_apart : (a c : N.PayloadView) (x y : List ℕ) → Takes a c (x ++ y) 0 → (b : N.PayloadView) × Takes a b x 0 × Takes b c y 0
    × (N.IsBetween c → N.IsBetween b)
takes_apart a c x y takes = (
  record { left = c.left; future = λ zs. before y (c.future zs); wire = c.wire; failures = c.failures },
  (takes.0, (takes.1.0, λ zs. rw N.append_assoc at (takes.1.1 zs)), takes.2, takes.3, takes.4),
  (grind arith),
  λ between. between,
)

takes_one : (a b : N.PayloadView) (bytes : List ℕ) → Takes a b bytes 0 → Takes a b bytes 1
takes_one _ _ _ x = grind arith

passes_apart : (p q : At) (a b m n : List ℕ) → Passes p q (a ++ b) (m ++ n) → (t : At) × Passes p t a m × Passes t q b n
passes_apart p q a b m n x =
    let t = takes_apart p.seen q.seen a b x.takes in
    let h = N.Puts_split _ _ m n x.few x.puts in (
      record { seen = t.0; place = p.place + length a; held = h.0 },
      grind arith,
      grind (arith, N.length-append),
    )

module _ {charset : Charset} {start : RowPart} {left : List (Column × Bool)} {p q : At} {column : ℕ} where
  nears_onward : {r : At} {text : List ℕ} → Passes q r [] text → NearsCells charset start left p q column
      → NearsCells charset start left p (record r { held = q.held }) column
  nears_onward {r = r} y x =
      let n = x.nears in
      let read = n.bytes ++ n.element in
      let takes = rw (N.append-nil read) at (N.takes_both p.seen q.seen r.seen read [] n.takes y.takes) in
      record { cells = x.cells; counted = x.counted; nears = grind arith; place_is = omega arith }

  nears_same : {j : N.SinkView} → Puts q.held j [] → NearsCells charset start left p q column → NearsCells charset start left p (record q { held = j }) column
  nears_same puts x =
      let n = N.nears_put _ _ _ _ _ _ _ _ _ _ _ x.nears puts in
      record { cells = x.cells; counted = x.counted; nears = n; place_is = x.place_is }

-- ---- a row, run after run

module _ (charset : Charset) (start : RowPart) (columns : List Column) (nulls : ℕ → Bool) (p : At) where
  -- The cells before a column were read and their text put, but for that of the NULLs by their bit from this column on.
  abbrev Near : ℕ → At → Type 0
  Near at q = NearsCells charset start (marked (drop at columns) nulls at) p q at

  column_nears : (at : ℕ) {q r : At} {bytes text : List ℕ} → N.WritesColumn charset columns nulls at bytes text → Passes q r bytes text → Near at q
      → Near (at + 1) r
  column_nears at {q} {r} w y x = rw (next_column columns at w.next).1.1 (go _ refl (rw w.next at x))
    where
      go : (null : Bool) → nulls at ≡ null → NearsCells charset start ((w.column, null) ∷ marked w.left nulls (at + 1)) p q at
          → NearsCells charset start (marked w.left nulls (at + 1)) p r (at + 1)
      go true is z =
          let v = w.null is in
          let y' = rw (v.0, v.1, ends_marked w.left nulls (at + 1)) at y in
          null_nears (nears_onward y' z) y'.puts
      go false is z =
          let put = N.RunPuts.whole_puts charset _ at _ q r _ _ (w.cell is) (grind arith) y.place_is y.puts in
          cell_nears y.between y.few (all_put refl y.delivered z) (rw (ends_marked w.left nulls (at + 1)) at put)

  marked_nears : (from n : ℕ) {q r : At} {bytes text : List ℕ} → N.WritesMarked charset columns nulls from n bytes text → Passes q r bytes text
      → Near from q → Near (from + n) r
  marked_nears from N.zero w y x = let y' = rw (w.0, w.1) at y in rw (N.add-zero from) (nears_same y'.puts (nears_onward y' x))
  marked_nears _ (N.suc n) {r = r} w y x =
      let t = passes_apart _ _ _ _ _ _ (rw (w.4, w.5) at y) in
      let z = column_nears _ w.7 t.2 (marked_nears _ n w.6 t.1 x) in
      N.subst (λ (k : ℕ). Near k r) (omega arith) z

  -- a write of the text of a column failed, after more was read
  column_breaks : (at : ℕ) {q : At} {e : Halt} {bytes rest text : List ℕ} → N.WritesColumn charset columns nulls at bytes text → Near at q
      → Breaks q e bytes rest text → until (RowStops charset start) p e
  column_breaks at {q} {e} w x y = go _ refl (rw w.next at x)
    where
      go : (null : Bool) → nulls at ≡ null
          → NearsCells charset start ((w.column, null) ∷ marked w.left nulls (at + 1)) p q at → until (RowStops charset start) p e
      go true is z = let v = w.null is in null_breaks z (rw (v.0, v.1, ends_marked w.left nulls (at + 1)) at y)
      go false is z = cell_stops (all_put refl y.delivered z) (rw (ends_marked w.left nulls (at + 1)) at (N.RunPuts.whole_breaks charset _ (w.cell is) y))

  -- a write of the text of so many columns failed
  marked_breaks : (from n : ℕ) {q : At} {e : Halt} {bytes rest text : List ℕ} → N.WritesMarked charset columns nulls from n bytes text → Near from q
      → Breaks q e bytes rest text → until (RowStops charset start) p e
  marked_breaks _ N.zero w x y = grind (arith, N.common_steps)
  marked_breaks from (N.suc n) {q} {e} {rest = rest} (front, back, first, more, joined, text_is, before, last) x y =
      let y' = rw (joined, text_is) at y in
      let read = rw (N.append_assoc front back) at y'.takes in
      elim (N.WritesPrefix_split q.held e.held first more e.stop y'.breaks) [
        | N.inl broken ↦ let left : Breaks q e front (back ++ rest) first = grind arith in marked_breaks from n before x left
        | inr m ↦
            let t = takes_apart q.seen e.seen front _ read in
            let there : At = record { seen = t.0; place = q.place + length front; held = m.0 } in
            let passes : Passes q there front first = grind arith in
            let later : Breaks there e back rest more = grind arith in
            column_breaks _ {q = there} last (marked_nears from n {r = there} before passes x) later
      ]

-- ---- a reading of rows, from call to call

-- a row is being read
abbrev pub IsInRow : {R W : Type 0} → Rows R W → Type 0
IsInRow rows = N.AwaitsRows rows.payload.now rows.sink.now rows.small.now

-- A row is still being read, on the same devices and area, by the same row format, with no more than a cell gathered.
pub record StaysInRow {R W : Type 0} (old new : Rows R W) : Type 0 where
  pub in_row : IsInRow new
  pub same : (new.payload.ghost_name ≡ old.payload.ghost_name) × (new.sink.ghost_name ≡ old.sink.ghost_name)
      × (new.small.ghost_name ≡ old.small.ghost_name) × (new.row_format ≡ old.row_format)
  pub payload : N.IsOnSame old.payload.now new.payload.now
  pub sink : N.IsOnSameSink old.sink.now new.sink.now
  pub small : N.LeavesSmall old.small.now new.small.now

pub stays : {R W : Type 0} {a : Rows R W} → IsInRow a → StaysInRow a a
stays x = grind arith

pub stays_on : {R W U : Type 0} {a b c : Rows R W} {u : U} → StaysInRow a b → LeavesRows b c (Ok u) → StaysInRow a c
stays_on x y = grind arith

-- ---- rows, one after another

-- Rows of a token were read and their lines put: so many whole ones, and this part of the next.
pub record RowsAt (token : RowToken) (charset : Charset) (all : List Column) (p q : At) (count : ℕ) (part : RowPart) : Type 0 where
  pub before : List (List Cell)
  pub counted : length before ≡ count
  pub path : Path (rows token charset all) rows_so_far (record { before = []; at = N.row_start token charset all }) p q (record { before = before; at = part })

module _ {token : RowToken} {charset : Charset} {all : List Column} where
  pub rows_first : {p : At} → Counts p.held → RowsAt token charset all p p 0 (N.row_start token charset all)
  rows_first d = grind (arith, N.Paths.path_none)

  module _ {p q : At} {count : ℕ} where
    rows_on : {part more : RowPart} {r : At} → RowsAt token charset all p q count part → Path (N.Words.row charset) N.row_so_far part q r more
        → RowsAt token charset all p r count more
    rows_on x y = search (N.rules, path_both, row_among)

    rows_stay : {part : RowPart} {r : At} → RowsAt token charset all p q count part → Passes q r [] [] → RowsAt token charset all p r count part
    rows_stay x y = search (N.rules, rows_on, writes_none)

    pub rows_stop : {part : RowPart} {e : Halt} → RowsAt token charset all p q count part → until (RowStops charset part) q e
        → until (N.RowsStop token charset all) p e
    rows_stop {part = part} x y = record { earlier = x.before; part = part; middle = q.seen; between = q.held; streams = grind arith; stops = grind arith }

    pub rows_whole : {cells : List Cell} → RowsAt token charset all p q count (N.WholeRow cells) → over (ReadsRows token charset all (count + 1)) p q
    rows_whole {cells = cells} x = record { earlier = x.before; last = cells; counted = omega arith; streams = grind arith; place_is = cc }

  pub rows_row : {p : At} {count : ℕ} {part : RowPart} {b d : N.PayloadView} {middle place' : ℕ} {i j : N.SinkView}
      → RowsAt token charset all p (record { seen = b; place = middle; held = i }) count part → N.ReadsRow charset part b d middle place' i j
      → ReadsRows token charset all (count + 1) p.seen d p.place place' p.held j
  rows_row x y = rows_whole (rows_on x (path_of y.streams y.place_is))

  -- the token byte of the next row was read
  pub rows_token : {p q r : At} {count : ℕ} → 0 < length all → over (ReadsRows token charset all count) p q
      → Takes q.seen r.seen (N.token_byte token ∷ []) 1 → Puts q.held r.held [] → r.place ≡ q.place + 1
      → RowsAt token charset all p r count (N.row_start token charset all)
  rows_token some x takes puts place_is = record {
    before = x.earlier ++ x.last ∷ [];
    counted = omega (arith, N.length-append x.earlier (x.last ∷ []));
    path = path_both (path_of x.streams x.place_is)
        (record { bytes = N.token_byte _ ∷ []; made = []; writes = row_token _ _ _ _ x.last some; takes = takes; puts = puts; place_is = place_is });
  }

-- ROWs after ROWs
rows_further : {charset : Charset} {all : List Column} {p q r : At} {count : ℕ} {earlier : List (List Cell)} {part part' : RowPart}
    → RowsAt N.PlainRow charset all p q count part → Path (rows N.PlainRow charset all) rows_so_far (record { before = []; at = part }) q r
    (record { before = earlier; at = part' }) → RowsAt N.PlainRow charset all p r (count + length earlier) part'
rows_further {charset = charset} {all = all} {earlier = earlier} x y = record {
  before = x.before ++ earlier;
  counted = omega (arith, N.length-append x.before earlier);
  path = path_both x.path (rw N.append-nil at (path_map (λ a m. rows_after charset all x.before) y));
}

-- ---- a write of the text of ROWs failed

module _ (charset : Charset) (all : List Column) (some : 0 < length all) where
  -- an element of a row has the text that it has among rows, and a token byte has none
  row_next : (before : List (List Cell)) (part : RowPart) (element more : List ℕ)
      → N.IsNext (rows N.PlainRow charset all) (record { before = before; at = part }) element
      → rows_so_far (record { before = before; at = part }) ++ more
      ≡ rows_so_far ((rows N.PlainRow charset all).add (record { before = before; at = part }) element)
      → (more ≡ []) ⊎ (N.IsNext (N.Words.row charset) part element × (N.row_so_far part ++ more ≡ N.row_so_far (N.row_add charset part element)))
  row_next before (N.WholeRow cells) element more next is =
      inl (N.append_cancel_left _ more [] (is ∙ sym (row_token N.PlainRow charset all before cells some).text_is))
  row_next before part _ _ next is = inr (grind arith, N.append_cancel_left (N.lines before) _ _ (grind (arith, N.append_assoc)))

  -- what was put before a write failed, and that row's stop
  rows_break : {p : At} {e : Halt} {bytes made : List ℕ} {s t : N.RowsPart} → N.Writes (rows N.PlainRow charset all) rows_so_far s bytes made t
      → Breaks p e bytes [] made
      → (at : N.RowsPart) × (q : At) × Path (rows N.PlainRow charset all) rows_so_far s p q at × until (RowStops charset at.at) q e
  rows_break {p} {e} {bytes = bytes} {s = s} w y =
      let found = N.breaks_within (rows N.PlainRow charset all) rows_so_far (λ s. rows_grow charset N.PlainRow all some s.before s.at) s p.seen e.seen
      p.held e.held e.stop y.between _ bytes [] _ w.spelt (takes_one p.seen e.seen (bytes ++ []) y.takes) y.few y.delivered w.text_is y.breaks in
      let x = found.1 in
      let apart = takes_apart p.seen e.seen x.bytes (x.element ++ x.ahead) (rw (← found.2, N.append_assoc) at y.takes) in (
        found.0,
        record { seen = apart.0; place = p.place + length x.bytes; held = x.middle },
        record {
          bytes = x.bytes;
          made = x.puts.0;
          writes = record { spelt = x.spelt; text_is = x.puts.1 };
          takes = N.Takes-more p.seen apart.0 x.bytes 0 _ (omega arith) apart.1;
          puts = x.puts.2;
          place_is = refl;
        },
        elim (row_next found.0.before found.0.at x.element x.more x.next x.text_is) [
          | inl none ↦ absurd (let breaks = rw none at x.breaks in grind (arith, N.common_steps))
          | inr z ↦ record {
            at = found.0.at;
            cause = inr (
              record {
                bytes = [];
                element = x.element;
                ahead = x.ahead;
                spelt = grind arith;
                next = z.0;
                takes = grind arith;
                between = x.between;
                middle = x.middle;
                few = x.few;
                puts = ([], N.append-nil _, N.Puts-none x.middle (omega arith));
                more = x.more;
                text_is = z.1;
                breaks = x.breaks;
              },
              y.failed,
            );
          }
        ],
      )

-- ---- ROWs, run after run and cell after cell

-- ROWs were read and their lines put, so many whole ones and the first cells of the next, whose other columns are left.
pub record Rowing (charset : Charset) (all : List Column) (left : List (Column × Bool)) (p q : At) (column count : ℕ) : Type 0 where
  pub cells : List Cell
  pub counted : length cells ≡ column
  pub rows : RowsAt N.PlainRow charset all p q count (N.next_cell charset cells left)

-- a run went on
rowing_run : {charset : Charset} {all left left' : List Column} {column column' count count' : ℕ} {p q r : At} {f : List ℕ → List ℕ → Type 0}
    (x : Rowing charset all (coming left column) p q column count) (y : over (N.PutsRun f) q r)
    → N.WritesRows charset all x.cells left left' column' count' y.bytes y.text → Rowing charset all (coming left' column') p r column' (count + count')
rowing_run x y w = grind (arith, rows_further)

-- a cell was read and put
rowing_cell : {charset : Charset} {all : List Column} {c : Column} {ks : List (Column × Bool)} {column count : ℕ} {p q r : At}
    → nulls_ahead (column + 1) ks ≡ [] → Rowing charset all ((c, false) ∷ ks) p q column count
    → N.RowSteps.PutsAt charset c.kind column (ends ks) q r → Rowing charset all ks p r (column + 1) count
rowing_cell {c = c} none x y =
    let one = cell_path _ c x.counted none y in
    record { cells = x.cells ++ one.0 ∷ []; counted = grind (arith, N.length-append); rows = rows_on x.rows one.1 }

-- ---- the cells of either kind of row, run after run and one by one

-- The first cells of a row were read and their text put: of ROWs, so many after the first; of an NBCROW but for the NULLs by their bit from there on.
abbrev standing : Nulls → Charset → List Column → At → At → ℕ → ℕ → Type 0
standing N.Unmarked charset columns p q column count = Rowing charset columns (coming (drop column columns) column) p q column count
standing (N.Marked bitmap) charset columns p q column count = (count ≡ 0)
    × NearsCells charset (Bitmap columns) (marked (drop column columns) (bit bitmap.now) column) p q column

-- the token of the rows with such bits
abbrev pub token_of : Nulls → RowToken
token_of N.Unmarked = N.PlainRow
token_of (N.Marked bitmap) = N.NbcRow

pub token_is : (token : RowToken) (nulls : Nulls) (bytes : List ℕ) → N.MarkedBy token bytes nulls → token ≡ token_of nulls
token_is = grind arith

-- so less is left of the packets that may come, or of the row
pub row_shrinks : (most most' p q r count count' from after : ℕ) → count' ≡ count → most' ≡ most → r ≤ most' → after ≤ count' → count ≤ 65535 → p ≤ q
    → (q ≤ r) × ((q < r) ⊎ (from < after)) → (most' - r) * 65536 + (count' - after) < (most - p) * 65536 + (count - from)
row_shrinks = grind arith

-- ---- NBCROWs that are whole in the packet

module _ {charset : Charset} {columns : List Column} where
  -- such a row was handed out after others, and its line was put
  rows_one : {o p q : At} {count : ℕ} (front row before line : List ℕ) → 0 < length columns → Counts q.held
      → N.WritesNbcRow charset columns row line → Passes p q (front ++ row) (before ++ line)
      → ((t : At) → Passes p t front before → RowsAt N.NbcRow charset columns o t count (Bitmap columns))
      → over (ReadsRows N.NbcRow charset columns (count + 1)) o q
  rows_one {p = p} {q} front row before line some delivered last passes come =
      let t = passes_apart p q front row before line passes in
      let whole : Passes t.0 q (last.bitmap ++ last.cells) line = rw (← last.joined) t.2 in
      let u = passes_apart t.0 q last.bitmap last.cells [] line whole in
      let begun = bitmap_nears columns last.bitmap some last.whole (N.Takes-more t.0.seen u.0.seen last.bitmap 0 _ (omega arith) u.1.takes) u.1.between
      t.1.few t.2.delivered u.1.place_is in
      let near = marked_nears charset _ columns (bit last.bitmap) t.0 0 (length columns) last.writes u.2 (nears_same u.1.puts begun) in
      let gone : drop (0 + length columns) columns ≡ [] = N.drop_all _ columns (omega arith) in
      rows_row (come t.0 t.1) (row_ends (all_put refl delivered (rw gone at near)))

  -- so many of them, each before the token byte of the next, were handed out with it, and their lines were put
  rows_marked : (n : ℕ) {o p q : At} {count : ℕ} {bytes text : List ℕ} → 0 < length columns → N.WritesNbcRows charset columns n bytes text
      → Passes p q bytes text → RowsAt N.NbcRow charset columns o p count (Bitmap columns)
      → RowsAt N.NbcRow charset columns o q (count + n) (Bitmap columns)
  rows_marked N.zero {count = count} _ w y x = rw (N.add-zero count) (grind (arith, rows_stay))
  rows_marked (N.suc n) {p = p} {q} {count} some (front, row, before, line, joined, text_is, earlier, last) y x =
      let token = N.token_byte N.NbcRow ∷ [] in
      let u = passes_apart p q (front ++ row) token (before ++ line) [] (grind (arith, N.append_assoc, N.append-nil)) in
      let read = rows_one front row before line some u.2.delivered last u.1 (λ t z. rows_marked n some earlier z x) in
      let counted : count + N.suc n ≡ count + n + 1 = omega arith in
      rw counted (rows_token some read (grind (arith, takes_one)) u.2.puts u.2.place_is)

  -- and one more, which no other follows
  rows_last : (n : ℕ) {o p q : At} {count : ℕ} {bytes text : List ℕ} → 0 < length columns → Counts q.held
      → N.WritesWholeRows charset columns n N.true bytes text → Passes p q bytes text → RowsAt N.NbcRow charset columns o p count (Bitmap columns)
      → over (ReadsRows N.NbcRow charset columns (count + n + 1)) o q
  rows_last n some delivered (front, row, before, line, joined, text_is, earlier, last) y x =
      rows_one front row before line some delivered last (grind arith) (λ t z. rows_marked n some earlier z x)

-- ---- what calls do that read cells or rows

module _ {R W : Type 0} (remaining : N.Tells R) (contents : N.Tells W) where
  abbrev here : Rows R W → At
  here rows = N.Paths.here remaining contents rows

  abbrev SomeHere : RowToken → List Column → Rows R W → Rows R W → N.Result ℕ Stop → Type 0
  SomeHere token columns old new result = N.SomeRead remaining contents token old.row_format.now.charset columns old.payload.now new.payload.now
      old.sink.now new.sink.now result

  -- nothing is put where the sink stays as it was
  none_put : {old new : N.Sink W} → new ≡ old → Counts (held contents old) → Puts (held contents old) (held contents new) []
  none_put same d = rw same (N.Puts-none _ d)

  passes_on : {first old new : Rows R W} {f : List ℕ → List ℕ → Type 0} → StaysInRow first old → StaysInRow first new
      → (run : over (N.PutsRun f) (here old) (here new))
      → Passes (here old) (here new) run.bytes run.text
  passes_on before after run = search (N.rules, N.between_of)

  -- So it is at this place, whatever columns the row format knows.
  pub record Stands (nulls : Nulls) (first rows : Rows R W) (at : Cursor) (count : ℕ) : Type 0 where
    pub kept : StaysInRow first rows
    pub reads : (columns : List Column) → Knows rows.row_format.now columns → N.IsCursor rows.row_format.now columns at
        × standing nulls rows.row_format.now.charset columns (here first) (here rows) at.column count

  -- The next cell was put, NULL or as it was read, or the call stopped.
  pub record NextPut (nulls : Nulls) (old new : Rows R W) (at after : Cursor) (result : N.Result ⊤ Stop) : Type 0 where
    pub kind : N.Kind
    pub takes : (columns : List Column) → Knows old.row_format.now columns → N.IsCursor old.row_format.now columns at
        → TakesColumn old.row_format.now columns at after kind
    pub read : N.NextRead remaining contents at kind (N.nulls_of nulls at.column) old new result

  breaks_on : {first old : Rows R W} (new : Rows R W) {nulls : Nulls} {from : Cursor} {stop : Stop} → StaysInRow first old
      → (run : N.WritesPrefixOfRun old.row_format.now nulls from (here old).seen (here new).seen (here old).held (here new).held new.sink.now.failed stop)
      → Breaks (here old) (halt remaining contents new stop) run.bytes [] run.text
  breaks_on _ before run = grind (arith, N.append-nil)

  -- ---- the next cell

  module _ (old : Rows R W) {columns : List Column} {at after : Cursor} {kind : N.Kind} (nulls : ℕ → Bool) (knows : Knows old.row_format.now columns)
      (taken : TakesColumn old.row_format.now columns at after kind) where
    abbrev left : List (Column × Bool)
    left = marked (drop after.column columns) nulls (at.column + 1)

    -- the row's last cell is the one before no other
    last_is : (at.column + 1 == old.row_format.now.count) ≡ ends left
    last_is = grind (arith, last_one)

    -- it was read, or it stopped
    pub cell_read : {U : Type 0} {new : Rows R W} {result : N.Result U Stop} → N.CellRead remaining contents at kind old new result
        → N.FieldPut remaining contents (N.cell_start taken.column.kind (N.shape old.row_format.now.charset taken.column.kind)) at.column (ends left)
        old.payload.now new.payload.now old.sink.now new.sink.now result
    cell_read x = rw (taken.kind, last_is) at x.cell

    module _ (new : Rows R W) where
      -- it doesn't go back
      next_place : {u : ⊤} (null : Bool) → N.NextRead remaining contents at kind null old new (Ok u) → old.payload.now.place ≤ new.payload.now.place
      next_place = grind arith

      module _ (p : At) (in_row : IsInRow old) (near : NearsCells old.row_format.now.charset (Bitmap columns)
          (marked (drop at.column columns) nulls at.column) p (here old) at.column) where
        left_here : (null : Bool) → nulls at.column ≡ null
            → NearsCells old.row_format.now.charset (Bitmap columns) ((taken.column, null) ∷ left) p (here old) at.column
        left_here _ is = grind arith

        next_nears : {u : ⊤} (null : Bool) → nulls at.column ≡ null → LeavesRows old new (Ok u) → N.NextRead remaining contents at kind null old new (Ok u)
            → NearsCells old.row_format.now.charset (Bitmap columns) left p (here new) (at.column + 1)
        next_nears true is leaves y = rw y.0 (null_nears (left_here true is) (rw last_is at y.1.gives))
        next_nears false is leaves y = cell_nears (search (N.rules, N.between_of)) (omega arith)
            (all_put refl in_row.sink.ready.2 (left_here false is)) (cell_read y)

        next_stops : {stop : Stop} (null : Bool) → nulls at.column ≡ null → N.NextRead {U = ⊤} remaining contents at kind null old new (Err stop)
            → until (RowStops old.row_format.now.charset (Bitmap columns)) p (halt remaining contents new stop)
        next_stops {stop} true is y =
            let none = N.Takes-none (here old).seen 0 in
            let failed : Breaks (here old) (halt remaining contents new stop) [] [] (N.in_line at.column (ends left) N.null_field) = grind (arith, last_is) in
            null_breaks (left_here _ is) failed
        next_stops false is y = cell_stops (all_put refl in_row.sink.ready.2 (left_here _ is)) (cell_read y)

  -- ---- run after run and cell after cell

  module _ {first old : Rows R W} {from : Cursor} {count : ℕ} where
    -- at the row's end
    pub stands_end : {columns : List Column} (nulls : Nulls) → Stands nulls first old from count
        → ((columns : List Column) → Knows old.row_format.now columns → N.IsCursor old.row_format.now columns from → drop from.column columns ≡ [])
        → Knows first.row_format.now columns → SomeHere (token_of nulls) columns first old (Ok (count + 1))
    stands_end N.Unmarked x none = rw (← x.kept.same.3) (λ knows.
        let y = x.reads _ knows in rows_whole (rw (none _ knows y.0) at y.1).rows)
    stands_end (N.Marked bitmap) x none = rw (← x.kept.same.3) (λ knows.
        let y = x.reads _ knows in (omega arith, row_ends (all_put refl x.kept.in_row.sink.ready.2 (rw (none _ knows y.0) at y.1.1))))

    module _ {new : Rows R W} {to : Cursor} where
      -- after the cells of a run
      pub stands_run : {more : ℕ} (nulls : Nulls) → Stands nulls first old from count → N.RunRead remaining contents nulls from to old new (Ok more)
          → Stands nulls first new to (count + more)
      stands_run N.Unmarked x run = record {
        kept = stays_on x.kept run.leaves;
        reads = rw run.leaves.same.3 (λ columns knows.
            let y = x.reads _ knows in
            let ran = run.cells.wrote _ knows y.0 in
            (ran.0, rowing_run y.1 run.cells (grind arith)));
      }
      stands_run (N.Marked bitmap) x run = let kept = stays_on x.kept run.leaves in record {
        kept = kept;
        reads = rw run.leaves.same.3 (λ columns knows.
            let y = x.reads _ knows in
            let runs = run.cells.wrote.1 _ knows y.0 in
            let near = marked_nears _ _ columns (bit bitmap.now) _ _ runs.count runs.writes (passes_on x.kept kept run.cells) y.1.1 in
            (runs.ahead, (omega arith, rw runs.further near)));
      }

      -- a write of their text failed
      pub run_fails : {stop : Stop} {columns : List Column} (nulls : Nulls) → Stands nulls first old from count → 0 < old.row_format.now.count
          → N.RunRead remaining contents nulls from to old new (Err stop) → Knows first.row_format.now columns
          → SomeHere (token_of nulls) columns first new (Err stop)
      run_fails N.Unmarked x some run = rw (← x.kept.same.3) (λ knows.
          let y = x.reads _ knows in
          let ran = (run.cells.wrote _ knows y.0).1 _ y.1.cells refl y.1.counted in
          let broken = rows_break _ _ (omega arith) (rw y.1.counted at ran.writes) (breaks_on new x.kept run.cells) in
          rows_stop (rows_further y.1.rows broken.2) broken.3)
      run_fails {columns = columns} (N.Marked bitmap) x _ run = rw (← x.kept.same.3) (λ knows.
          let y = x.reads _ knows in
          let runs = run.cells.wrote.1 _ knows y.0 in
          (tt, marked_breaks _ _ columns (bit bitmap.now) _ _ runs.count runs.writes y.1.1 (breaks_on new x.kept run.cells)))

      -- after the next cell
      pub stands_next : {u : ⊤} (nulls : Nulls) → Stands nulls first old from count → LeavesRows old new (Ok u)
          → NextPut nulls old new from to (Ok u) → Stands nulls first new to count
      stands_next N.Unmarked x leaves next = record {
        kept = stays_on x.kept leaves;
        reads = rw leaves.same.3 (λ columns knows.
            let y = x.reads _ knows in
            let t = next.takes _ knows y.0 in (
              t.ahead,
              rw (sym t.further) at (rowing_cell (grind (arith, none_ahead)) (rw t.next at y.1) (cell_read old (λ k. false) knows t next.read)),
            ));
      }
      stands_next (N.Marked bitmap) x leaves next = grind (arith, next_nears)

      -- it stopped
      pub next_fails : {stop : Stop} {columns : List Column} (nulls : Nulls) → Stands nulls first old from count
          → NextPut nulls old new from to (Err stop) → Knows first.row_format.now columns → SomeHere (token_of nulls) columns first new (Err stop)
      next_fails N.Unmarked x next = rw (← x.kept.same.3) (λ knows.
          let y = x.reads _ knows in
          let t = next.takes _ knows y.0 in
          let z = rw t.next at y.1 in
          rows_stop z.rows (N.NullSteps.marked_stops _ _ _ t.column z.counted (cell_read old (λ k. false) knows t next.read)))
      next_fails (N.Marked bitmap) x next = rw (← x.kept.same.3) (λ knows.
          let y = x.reads _ knows in
          (tt, next_stops old (bit bitmap.now) knows (next.takes _ knows y.0) new _ x.kept.in_row y.1.1 _ refl next.read))

  -- before the first cell: nothing was read of a ROW, and of an NBCROW the bitmap, which has a bit for each column
  pub stands_first : {first old : Rows R W} {from : Cursor} (nulls : Nulls) (bytes : List ℕ) → N.MarkedBy (token_of nulls) bytes nulls
      → N.KnowsSome first.row_format.now → N.IsWriting first.sink.now → StaysInRow first old → old.sink.now ≡ first.sink.now → from.column ≡ 0
      → ((columns : List Column) → Knows first.row_format.now columns → N.IsCursor first.row_format.now columns from)
      → N.BitmapRead {U = ⊤} remaining (token_of nulls) first.payload.now old.payload.now bytes first.row_format.now.count (Ok tt)
      → N.Covers nulls first.row_format.now.count × (first.payload.now.place ≤ old.payload.now.place) × Stands nulls first old from 0
  stands_first N.Unmarked _ _ _ writing kept sink start ahead read = (
    tt,
    omega (arith, ap (λ p. p.place) read.0),
    record {
      kept = kept;
      reads = rw (kept.same.3, read.0, sink) (λ columns knows.
          (ahead columns knows, rw start (record { cells = []; counted = refl; rows = rows_first writing.ready.2 })));
    },
  )
  stands_first (N.Marked bitmap) _ is known writing kept sink start ahead read = (
    omega (arith, ap length is),
    omega arith,
    grind (arith, bitmap_nears),
  )

  -- the payload stopped in it
  pub bitmap_fails : {row_format : N.RowFormat} {columns : List Column} (a b : Payload R) {sink : N.Sink W} (token : RowToken) (bytes : List ℕ)
      (stop : Stop) → N.IsWriting sink → Knows row_format columns → 0 < row_format.count
      → N.BitmapRead {U = ⊤} remaining token a b bytes row_format.count (Err stop)
      → N.SomeRead remaining contents token row_format.charset columns a b sink sink (Err stop)
  bitmap_fails _ _ N.PlainRow _ _ _ _ _ read = grind arith
  bitmap_fails _ _ N.NbcRow _ _ writing knows some x = (
    tt,
    rw writing.writing (record {
      at = Bitmap _;
      cause = inl (
        N.cut_at_once _ _ _ _ _ x.part x.own _ (omega arith) x.ends (grind (arith, N.began_is_cut)),
        ([], refl, N.Puts-none _ writing.ready.2),
        refl,
      );
    }),
  )

  -- a run and the next cell go on: by a byte, or by a column
  pub next_further : {first old middle new : Rows R W} {from to after : Cursor} {count more : ℕ} {u : ⊤} (nulls : Nulls)
      → Stands nulls first old from count → N.RunRead remaining contents nulls from to old middle (Ok more) → N.KnowsSome first.row_format.now
      → NextPut nulls middle new to after (Ok u) → (middle.payload.now.place ≤ new.payload.now.place)
      × ((middle.payload.now.place < new.payload.now.place) ⊎ (from.column < after.column))
  next_further {middle = middle} N.Unmarked x run known next =
      let at = stands_run N.Unmarked x run in
      let knows = rw (← at.kept.same.3) at known.1 in
      let y = at.reads _ knows in
      let some = N.RowSteps.cell_some _ _ (cell_read middle (λ k. false) knows (next.takes _ knows y.0) next.read) in
      (omega arith, inl some)
  next_further (N.Marked bitmap) x run known next = grind arith

  -- ---- rows of either kind, row after row

  -- Rows were read and their lines put, this many, and the token byte of one more, whatever columns the row format knows.
  pub record RowsCome (token : RowToken) (first rows : Rows R W) (count : ℕ) : Type 0 where
    pub kept : StaysInRow first rows
    pub reads : (columns : List Column) → Knows rows.row_format.now columns
        → RowsAt token rows.row_format.now.charset columns (here first) (here rows) count (N.row_start token rows.row_format.now.charset columns)

  pub come_first : {token : RowToken} {first : Rows R W} → IsInRow first → RowsCome token first first 0
  come_first in_row = grind (arith, rows_first)

  module _ {U : Type 0} {u : U} {first old new : Rows R W} {count n : ℕ} {last : Bool} (leaves : LeavesRows old new (Ok u))
      (some : 0 < old.row_format.now.count) (taken : (columns : List Column) → Knows old.row_format.now columns
      → over (N.PutsRun (N.WritesWholeRows old.row_format.now.charset columns n last)) (here old) (here new)) where
    -- after NBCROWs that went at once, of ROWs none, which another follows
    pub come_taken : (token : RowToken) → (token ≡ N.PlainRow → (n ≡ 0) × (last ≡ false)) → RowsCome token first old count → last ≡ false
        → RowsCome token first new (count + n)
    come_taken N.PlainRow none x more = let kept = stays_on x.kept leaves in record {
      kept = kept;
      reads = rw leaves.same.3 (λ columns knows.
          let y = taken columns knows in
          let w = rw ((none refl).0, more) at y.wrote in
          let passes = passes_on x.kept kept y in
          rw ((none refl).0, N.add-zero count) (grind (arith, rows_stay)));
    }
    come_taken N.NbcRow _ x more = let kept = stays_on x.kept leaves in record {
      kept = kept;
      reads = rw leaves.same.3 (λ columns knows.
          let y = taken columns knows in
          rows_marked n (omega arith) (rw more at y.wrote) (passes_on x.kept kept y) (grind arith));
    }

    -- and the last, which no other follows
    pub come_last : {columns : List Column} (token : RowToken) → (token ≡ N.PlainRow → (n ≡ 0) × (last ≡ false)) → RowsCome token first old count
        → last ≡ true → Knows first.row_format.now columns
        → over (ReadsRows token first.row_format.now.charset columns (count + n + 1)) (here first) (here new)
    come_last N.PlainRow none _ end = absurd (let is = (none refl).1 in cc)
    come_last N.NbcRow _ x end = rw (← x.kept.same.3) (λ knows.
        let kept = stays_on x.kept leaves in
        let y = taken _ knows in
        rows_last n (omega arith) kept.in_row.sink.ready.2 (rw end at y.wrote) (passes_on x.kept kept y) (x.reads _ knows))

  module _ {first old : Rows R W} {count : ℕ} where
    -- a row more was read, or several
    come_here : {columns : List Column} (n : ℕ) (new : Rows R W) (token : RowToken) → RowsCome token first old count
        → SomeHere token columns old new (Ok n) → Knows old.row_format.now columns
        → over (ReadsRows token old.row_format.now.charset columns (count + n)) (here first) (here new)
    come_here n _ N.PlainRow x y knows =
        let all_rows : count + length y.earlier + 1 ≡ count + n = omega arith in
        rw all_rows at (rows_whole (rows_further (x.reads _ knows) (path_of y.streams y.place_is)))
    come_here _ _ N.NbcRow x y knows = rw y.0 (rows_row (x.reads _ knows) y.1)

    module _ {new : Rows R W} (token : RowToken) (x : RowsCome token first old count) {n : ℕ} (leaves : LeavesRows old new (Ok n))
        (read : (columns : List Column) → Knows old.row_format.now columns → SomeHere token columns old new (Ok n)) where
      pub come_rows : {columns : List Column} → Knows first.row_format.now columns
          → over (ReadsRows token first.row_format.now.charset columns (count + n)) (here first) (here new)
      come_rows = grind (arith, come_here)

      -- and the token byte of the next
      pub come_next : {V : Type 0} {v : V} {after : Rows R W} → 0 < old.row_format.now.count → LeavesRows new after (Ok v)
          → after.sink.now ≡ new.sink.now → Takes (here new).seen (here after).seen (N.token_byte token ∷ []) 1
          × (after.payload.now.place ≡ new.payload.now.place + 1) → RowsCome token first after (count + n)
      come_next some stays sink taken = let kept = stays_on x.kept leaves in record {
        kept = stays_on kept stays;
        reads = rw (stays.same.3, leaves.same.3) (λ columns knows. rows_token (omega arith) (come_here _ new token x (read _ knows) knows)
            taken.0 (grind (arith, none_put)) taken.1);
      }

    -- they stopped
    pub come_stops : {new : Rows R W} {columns : List Column} {stop : Stop} (token : RowToken) → RowsCome token first old count
        → LeavesRows {U = ℕ} old new (Err stop)
        → ((columns : List Column) → Knows old.row_format.now columns → SomeHere token columns old new (Err stop)) → Knows first.row_format.now columns
        → until (N.RowsStop token first.row_format.now.charset columns) (here first) (halt remaining contents new stop)
    come_stops N.PlainRow x _ read = rw (← x.kept.same.3) (λ knows.
        let y = read _ knows in rows_stop (rows_further (x.reads _ knows) (path_of y.streams refl)) y.stops)
    come_stops N.NbcRow x _ read = rw (← x.kept.same.3) (λ knows. rows_stop (x.reads _ knows) (read _ knows).1)
