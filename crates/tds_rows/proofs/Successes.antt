-- A call that reads what comes whole stops only where a device fails.
use Rattle.tds_rows.proofs as N
use N.{◌≡◌, ◌∙◌, inl, inr, ℕ, ◌+◌, ◌<◌, List, [], ◌∷◌, ◌++◌, length, ap, arith, Ok, Err, Rose, Fault, Stop, before, Grammar, Spelt, Cell, Brings, if◌then◌else◌}
use N.Paths.{At}
use N.Words.{row}
use Rattle.tds_packet.specs.declared.payload.Payload.{Payload}
use Rattle.tds_cells.proofs.CellLaws.{cell_is_read}
use Rattle.tds_cells.proofs.RowLaws.{nbc_row_is_read, row_is_read, some_bitmap}
use Rattle.tds_cells.proofs.RunSteps.{row_token, row_among_rows}

-- a call that fails raises the count
pub rose : (f : ℕ) → Rose f (N.one_more f)
rose f = grind arith

-- ---- the reading of what comes whole

module _ {S : Type 0} (g : Grammar S Fault) (from to : S) (a b : N.PayloadView) (front more : List ℕ) (brings : Brings a (front ++ more))
    (last : N.Longest g from (front ++ more) (length front) to) (calm : Rose a.failures b.failures → ⊥) where
  -- what was read is the beginning of what comes
  came : (read : List ℕ) (bytes : List ℕ) → N.Consumes a.left b.left read
      → ((zs : List ℕ) → (a.future (read ++ zs)).bytes ≡ bytes ++ (b.future zs).bytes) → (rest : List ℕ) × (front ++ more ≡ bytes ++ rest)
  came _ _ taken gives = grind arith

  refused_there : (at : S) (bytes : List ℕ) (fault : Fault) → Spelt g from bytes at → N.RefusesNext g a b bytes at fault → at ≡ to
  refused_there at bytes fault spelt x =
      let e = x.element in
      let whole = x.whole in
      let c = came _ _ x.takes.1.0 (grind arith) in
      let rest = e ++ (x.ahead ++ c.0) in
      let all = c.1 ∙ N.append_assoc _ x.ahead c.0 ∙ N.append_assoc bytes e _ in
      let refused : N.IsRefused g at rest fault = grind (arith, N.length-append, N.take-append_seam) in
      (N.one_longest g _ _ _ _ _ _ (rw (← all) at (N.longest_refused g _ _ _ _ _ spelt refused)) last).1

  cut_there : (at : S) (bytes : List ℕ) (place : ℕ) (stop : Stop) → Spelt g from bytes at → N.CutsNext g a b bytes place at stop → at ≡ to
  cut_there at bytes place stop spelt x = (N.one_longest g _ _ _ _ _ _ (rw (← ends x.ends) at (N.longest_cut g _ _ _ _ spelt x.cut)) last).1
    where
      ends : N.Ends a b (bytes ++ x.part) x.own → front ++ more ≡ bytes ++ x.part
      ends y = grind (arith, N.append-nil)

  -- a reading that stops does so at the end of what comes
  stopped_there : (place : ℕ) (at : S) (stop : Stop) → N.StopsReading g from a b place at stop → at ≡ to
  stopped_there _ at stop x = elim x.cause [ inl y ↦ refused_there _ _ _ x.spelt y.0 | inr y ↦ cut_there _ _ _ _ x.spelt y ]

-- a state at which nothing follows is the end of what comes
longest_end : {S : Type 0} (g : Grammar S Fault) (from to : S) (front more : List ℕ) → Spelt g from front to → g.size to ≡ 0
    → N.Longest g from (front ++ more) (length front) to
longest_end g _ _ _ more spelt none = N.longest_at g _ _ _ _ spelt (λ d other some within k.
    let e = N.no_further g _ _ _ _ _ spelt (λ i a b. omega arith) k in
    omega (arith, ap length e, N.length-take-le d more within))

-- a call that reads whole elements to a state at which nothing follows doesn't stop in reading
none_stops_reading : {S : Type 0} {a b : N.PayloadView} {place : ℕ} {at : S} {stop : Stop} (g : Grammar S Fault) (from to : S) (front more : List ℕ)
    → Brings a (front ++ more) → Spelt g from front to → g.size to ≡ 0
    → (Rose a.failures b.failures → ⊥) → N.StopsReading g from a b place at stop → ⊥
none_stops_reading {stop = stop} g from to front more brings spelt none reads x =
    let there = stopped_there g from to _ _ front more brings (search (N.rules, longest_end)) reads _ _ stop x in
    let some = N.stops_size g from _ _ _ _ stop x in
    omega (arith, ap g.size there)

-- ---- the calls

-- one that reads to such a state and puts the text succeeds
pub streaming_succeeds : {S U : Type 0} {from to : S} {bytes : List ℕ} {g : Grammar S Fault} (text : S → List ℕ) (p : At) (b : N.PayloadView)
    (j : N.SinkView) (failed : N.Bool) (result : N.Result U Stop) (more : List ℕ) (P : U → Type 0)
    → N.MatchResult result P (λ stop. N.StopsStreaming g text from p.seen b p.place p.held j failed stop) → Spelt g from bytes to → g.size to ≡ 0
    → Brings p.seen (bytes ++ more) → (Rose p.seen.failures b.failures → ⊥) → (Rose p.held.failures j.failures → ⊥) → N.is_ok result ≡ N.true
streaming_succeeds _ _ _ _ _ (Ok x) _ P _ _ _ = grind arith
streaming_succeeds _ _ _ _ _ (Err stop) more P put spelt none =
    λ brings reads writes. absurd (elim put.cause [
      | inl y ↦ none_stops_reading _ _ _ _ _ brings spelt none reads y.0
      | inr y ↦ (grind arith)
    ])

pub value_passes : {R U : Type 0} (remaining : N.Tells R) (kind : N.Kind) (old new : Payload R) (result : N.Result U Stop) (value : Cell) (bytes more : List ℕ)
    → N.CellPassed remaining (N.cell_start kind (N.shape N.return_charset kind)) old new result → N.SpellsCell kind (N.shape N.return_charset kind) value bytes
    → Brings (N.seen remaining old) (bytes ++ more) → (Rose old.from.now.failures new.from.now.failures → ⊥) → N.is_ok result ≡ N.true
value_passes _ _ _ _ (Ok x) _ _ _ _ _ = grind arith
value_passes _ _ _ _ (Err stop) _ _ _ passed spelt = λ brings reads.
    let read = cell_is_read _ _ _ _ _ (grind arith) spelt in
    absurd (none_stops_reading _ _ _ _ _ brings read N.refl reads passed.stops)

pub long_is_read : (column : ℕ) (kind : N.Kind) (c : N.Conversion) (reach : N.Reach) (value : Cell) (bytes : List ℕ)
    → N.SpellsCell kind (N.LongShape c reach) value bytes → Spelt (N.Words.cell column) (N.long_start c reach) bytes (N.WholeCell value)
long_is_read _ kind c N.Short _ _ h = cell_is_read _ kind (N.LongShape c N.Short) _ _ tt h
long_is_read _ kind c N.Chunked _ _ h = cell_is_read _ kind (N.LongShape c N.Chunked) _ _ tt h

-- ---- rows, one after another

-- what spells a row is read as it
token_row_is_read : (token : N.RowToken) (charset : N.Charset) (columns : List N.Column) (cells : List Cell) (bytes : List ℕ) → 0 < length columns
    → N.SpellsRow token charset columns cells bytes → Spelt (row charset) (N.row_start token charset columns) bytes (N.WholeRow cells)
token_row_is_read N.PlainRow _ _ _ _ some h = row_is_read _ _ _ _ h
token_row_is_read N.NbcRow charset columns cells bytes some h = search (N.rules, nbc_row_is_read, some_bitmap)

module _ (token : N.RowToken) (charset : N.Charset) (columns : List N.Column) (some_columns : 0 < length columns) where
  abbrev all_rows : Grammar N.RowsPart Fault
  all_rows = N.Words.rows token charset columns

  abbrev among : List (List Cell) → N.RowPart → N.RowsPart
  among before part = record { before = before; at = part }

  abbrev begun_after : List (List Cell) → N.RowsPart
  begun_after before = among before (N.row_start token charset columns)

  row_of_rows : (before : List (List Cell)) (cells : List Cell) (bytes : List ℕ) → N.SpellsRow token charset columns cells bytes
      → Spelt all_rows (begun_after before) bytes (among before (N.WholeRow cells))
  row_of_rows before cells bytes h = N.Inside-Spelt _ all_rows _ (row_among_rows token charset columns before) _ bytes _
      (grind (arith, token_row_is_read))

  -- rows that are spelt are read as rows
  rows_are_read : (before : List (List Cell)) (first : List Cell) (later : List (List Cell)) (bytes : List ℕ)
      → N.SpellsRows token charset columns first later bytes
      → (earlier : List (List Cell)) × (last : List Cell) × Spelt all_rows (begun_after before) bytes (among earlier (N.WholeRow last))
  rows_are_read before first [] bytes h = (before, first, row_of_rows before first bytes h)
  rows_are_read before first (next ∷ later) _ h =
      let from = begun_after before in
      let there = begun_after _ in
      let t = rows_are_read (before ++ first ∷ []) next later h.1 h.4 in
      let one = N.Spelt-append all_rows from h.0 _ _ there (row_of_rows before first h.0 h.3)
      (row_token token charset columns before first some_columns).spelt in
      (t.0, t.1, rw (N.append_assoc, ← h.2) at (N.Spelt-append all_rows from _ there h.1 _ one t.2))

  -- where no row follows, the last one is the end
  longest_rows : (from : N.RowsPart) (earlier : List (List Cell)) (last : List Cell) (front more : List ℕ)
      → Spelt all_rows from front (among earlier (N.WholeRow last)) → N.BeginNoRow token more
      → N.Longest all_rows from (front ++ more) (length front) (among earlier (N.WholeRow last))
  longest_rows _ _ _ _ [] spelt none = N.longest_cut _ _ _ _ _ spelt (omega arith)
  longest_rows _ _ _ _ (byte ∷ more) spelt none = N.longest_refused _ _ _ _ _ _ spelt
      (record { some = omega arith; whole = omega arith; first = ap (λ b. if b then N.None else N.Some (N.RefusedToken byte)) none })

  pub rows_succeed : {R W : Type 0} (remaining : N.Tells R) (contents : N.Tells W) (old new : Payload R) (before after : N.Sink W)
      (result : N.Result ℕ Stop) (first : List Cell) (later : List (List Cell)) (bytes more : List ℕ)
      → N.RowsRead remaining contents token charset columns old new before after result → N.SpellsRows token charset columns first later bytes
      → N.BeginNoRow token more → N.SucceedsOn remaining old new before after result (bytes ++ more)
  rows_succeed _ _ _ _ _ _ (Ok n) _ _ _ _ _ _ _ = grind arith
  rows_succeed _ _ old _ _ _ (Err stop) first later bytes more read spelt none = λ brings reads writes. absurd (elim read.stops.cause [
    | inl y ↦
        (let t = rows_are_read [] first later bytes spelt in
        let at = read.stops.at in
        let some = N.stops_size _ read.part read.middle _ _ at stop y.0 in
        let among_rows = N.stops_inside _ all_rows _ (row_among_rows token charset columns read.earlier) read.part read.middle _ _ at stop
        (grind arith) y.0 in
        let all = N.stops_after all_rows _ _ _ read.middle _ old.place _ stop
        (record { bytes = read.streams.bytes; spelt = grind arith; takes = grind arith }) among_rows in
        let same = stopped_there all_rows _ _ _ _ bytes more brings (longest_rows _ t.0 t.1 bytes more t.2 none) reads old.place _ stop all in
        omega (arith, ap (row charset).size (ap (λ p. p.at) same)))
    | inr y ↦ (grind arith)
  ])
