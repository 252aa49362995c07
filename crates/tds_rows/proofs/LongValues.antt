-- Long values, in the grammar of a cell: the text of their parts, the pieces of their content, and their lengths and ends.
use Rattle.tds_rows.proofs as N
use N.{◌≡◌, ◌∙◌, inl, inr, ℕ, ◌-◌, ◌<◌, Bool, List, [], ◌∷◌, ◌++◌, length, sym, ap, arith, append-nil, Option, Stop, PayloadView, Conversion}
use N.{is_quoted, after_comma, SinkView, Puts, held, CellPart, PutsField, cell_so_far, ending, opening, ◌≢◌, ◌+◌, ChunkLength, ◌⊎◌, suc, true, false}
use N.{refl, append_assoc, Some, BadText, Spelt, BeginsData, is_fit, open_field, added_text}
use N.Words.{cell}
use N.Numbers.{Next, short_left, chunk_end, chunk_left}
use N.Paths.{At, Halt, Path, StopsEnding, StopsField, path_both, path_stops, over, until}
use Rattle.tds_cells.proofs.SeveralChunks.{emit_none}
use Rattle.tds_cells.proofs.RowTexts.{line_grows, after_append}
use Rattle.tds_columns.proofs.ByteLemmas.{split_last}

-- ---- content, byte by byte

-- the text of what of some content isn't withheld
abbrev pub emitted : Conversion → List ℕ → List ℕ
emitted c = N.emit (N.conversion_rest c) (N.conversion_text c)

-- The states of the bytes of some content, by how many follow and what was read: each next byte is an element, and free of faults where text begins
-- so, and where the content is good at its end, which has a tail.
pub record HoldsContent (column : ℕ) (c : Conversion) (state : ℕ → List ℕ → CellPart) (Good : List ℕ → Type 0) (tail : Bool → List ℕ → List ℕ) : Type 0
  where
    pub size : (r : ℕ) (d : List ℕ) → N.cell_size (state (suc r) d) ≡ 1
    pub end : (r : ℕ) (d : List ℕ) → N.cell_end (state (suc r) d) ≡ Some N.MessageEnded
    pub text : (r : ℕ) (d : List ℕ) → N.field_so_far (state (suc r) d) ≡ Some (open_field c d)
    pub add : (r : ℕ) (d : List ℕ) (x : ℕ) → N.cell_add (state (suc r) d) (x ∷ []) ≡ state r (d ++ x ∷ [])
    pub free : (r : ℕ) (d : List ℕ) (x : ℕ) → N.is_begun c (d ++ x ∷ []) ≡ true → (r ≡ 0 → Good (d ++ x ∷ []))
        → N.cell_fault column (state (suc r) d) (x ∷ []) ≡ N.None
    pub bad : (r : ℕ) (d : List ℕ) (x : ℕ) → N.is_begun c (d ++ x ∷ []) ≡ false → N.cell_fault column (state (suc r) d) (x ∷ []) ≡ Some (BadText column)
    pub ends : (d : List ℕ) (x : ℕ) → Good (d ++ x ∷ []) ⊎ (emitted c (d ++ x ∷ []) ≡ emitted c d)
    pub whole : (last : Bool) (d : List ℕ) → Good d → after_comma column (open_field c d) ++ tail last d ≡ cell_so_far column last (state 0 d)

module _ {column : ℕ} {c : Conversion} {state : ℕ → List ℕ → CellPart} {Good : List ℕ → Type 0}
    {tail : Bool → List ℕ → List ℕ} (last : Bool) (holds : HoldsContent column c state Good tail) where
  -- the bytes of some content are elements
  pub content_spelt : (d bytes : List ℕ) (m r : ℕ) → m ≡ length bytes + r → BeginsData c (d ++ bytes) → (r ≡ 0 → 0 < length bytes → Good (d ++ bytes))
      → Spelt (cell column) (state m d) bytes (state r (d ++ bytes))
  content_spelt d [] m r is begun good = search N.rules
  content_spelt d (x ∷ xs) m r is begun good =
      let k = length xs + r in
      let next : m ≡ suc k = omega arith in
      let good_one : k ≡ 0 → Good _ = λ none. rw (N.nil_from_length xs (omega arith)) at (good (omega arith) (omega arith)) in
      let regroup = sym (append_assoc d (x ∷ []) xs) in
      let more_begun = rw regroup at begun in
      let more = content_spelt _ xs k r refl more_begun (grind arith) in
      let one = N.Spelt-step _ _ _ _ (omega arith) (sym (holds.size k d))
      (holds.free k d x ((N.begun_by_test c _).1 ((N.joins_by_name c).front _ xs more_begun)) good_one) (holds.add k d x) in
      rw (next, regroup) (N.Spelt-append _ _ _ _ xs _ one more)

  front_spelt : {m : ℕ} (d bytes : List ℕ) (r : ℕ) → m ≡ length bytes + suc r → BeginsData c (d ++ bytes)
      → Spelt (cell column) (state m d) bytes (state (suc r) (d ++ bytes))
  front_spelt d _ r is begun = grind (arith, content_spelt)

  -- what some content adds to the open field
  pub text_more : (d more : List ℕ) → BeginsData c (d ++ more)
      → after_comma column (open_field c d) ++ added_text c d more ≡ after_comma column (open_field c (d ++ more))
  text_more d _ begun = grind (arith, N.open_grows)

  -- what some content adds to the text, where more follows
  text_grown : (d more : List ℕ) (r r' : ℕ) → BeginsData c (d ++ more)
      → cell_so_far column last (state (suc r) d) ++ added_text c d more ≡ cell_so_far column last (state (suc r') (d ++ more))
  text_grown d _ r _ begun = grind (arith, text_more)

  text_closed : (d more tail : List ℕ) (r : ℕ) → BeginsData c (d ++ more)
      → after_comma column (open_field c (d ++ more)) ++ tail ≡ cell_so_far column last (state 0 (d ++ more))
      → cell_so_far column last (state (suc r) d) ++ (added_text c d more ++ tail) ≡ cell_so_far column last (state 0 (d ++ more))
  text_closed d _ _ r begun whole = grind (arith, append_assoc, text_more)

  -- bytes were read and their text put, and more follow
  fills_path : {d more : List ℕ} {p q : At} (m r : ℕ) → m ≡ length more + suc r → over (N.FillsData c d) p q more
      → Path (cell column) (cell_so_far column last) (state m d) p q (state (suc r) (d ++ more))
  fills_path {more = more} m r is x =
      let next : suc (length more + r) ≡ m = omega arith in
      record {
        bytes = more;
        made = added_text c _ more;
        writes = grind (arith, front_spelt, text_grown);
        takes = x.takes;
        puts = x.puts;
        place_is = x.place_is;
      }

  -- what the last byte adds to the text, where it isn't good there
  adds_none : (d p : List ℕ) (x : ℕ) → BeginsData c (d ++ (p ++ x ∷ [])) → emitted c ((d ++ p) ++ x ∷ []) ≡ emitted c (d ++ p)
      → added_text c d (p ++ x ∷ []) ≡ added_text c d p
  adds_none d p x begun same =
      let laws = N.joins_by_name c in
      let regroup = sym (append_assoc d p _) in
      N.append_cancel_left _ _ _ (sym (grind arith) ∙ ap (emitted c) regroup ∙ same
      ∙ laws.emits d p (grind arith))

  -- the byte after some that are good is refused
  byte_refused : {a b : PayloadView} {h i : SinkView} {m : ℕ} (d good ahead : List ℕ) (y r place : ℕ) → m ≡ length good + suc r → BeginsData c (d ++ good)
      → N.cell_fault column (state (suc r) (d ++ good)) (y ∷ []) ≡ Some (BadText column) → N.Takes a b (good ++ y ∷ ahead) 1 → N.IsBetween b
      → Puts h i (added_text c d good)
      → StopsField (state m d) column last a b place h i false (record { fault = BadText column; place = N.Payload (place + length good) })
  byte_refused {a = a} {m = m} d good ahead y r _ is begun bad takes between puts =
      let next : suc (length good + r) ≡ m = omega arith in
      record {
        at = state _ _;
        cause = inl (
          record {
            bytes = good;
            spelt = front_spelt d good r is begun;
            cause = inl (
              record {
                element = y ∷ [];
                ahead = ahead;
                some = omega arith;
                whole = omega arith;
                first = bad;
                takes = grind (arith, N.Takes-more, N.length-append, append_assoc);
                between = between;
              },
              refl,
            );
          },
          (added_text c d good, rw next at (text_grown d good (length good + r) r begun), puts),
          refl,
        );
      }

  module _ (d : List ℕ) (r : ℕ) (a b : PayloadView) (place : ℕ) (h i : SinkView) (stop : Stop) (few : N.HasRoom h)
      (delivered : N.Counts h) where
    abbrev Stopped : Bool → Type 0
    Stopped failed = StopsField (state (suc r) d) column last a b place h i failed stop

    piece_cut : N.CutsBytes 1 a b place stop → i ≡ h → Stopped false
    piece_cut x same =
        let at = state _ d in
        let stops = N.cut_at_once _ _ a b _ _ _ _ (omega arith) x.ends (grind arith) in
        rw same (record { at = at; cause = inl (stops, ([], append-nil _, N.Puts-none h delivered), refl) })

    piece_refused : N.RefusesData c d column (suc r) a b place h i stop → Stopped false
    piece_refused x =
        let no : N.is_begun c ((d ++ x.good) ++ x.bad ∷ []) ≡ false = grind (arith, N.begun_by_test) in
        rw x.stop_is (byte_refused d _ _ _ _ _ (omega arith) x.begun (holds.bad (r - length x.good) _ x.bad no) x.takes
        x.between x.puts)

    -- a write of the text of a piece failed, whose bytes lead to a state
    broken : (good ahead added : List ℕ) {to : CellPart} → Spelt (cell column) (state (suc r) d) good to → N.Takes a b (good ++ ahead) 1 → N.IsBetween b
        → cell_so_far column last (state (suc r) d) ++ added ≡ cell_so_far column last to → N.WritesPrefix h i added stop → Stopped true
    broken _ _ _ {to} spelt takes between text_is breaks =
        let x = N.breaks_somewhere _ _ (line_grows column last) _ a b h i _ between to _ _ _ spelt takes few delivered text_is breaks in
        record { at = x.0; cause = grind arith }

    piece_broken_at : (x : N.WritesPrefixOfData c d (suc r) a b h i stop) (p : List ℕ) (y : ℕ) → x.good ≡ p ++ y ∷ [] → length x.good ≡ suc r
        → Stopped true
    piece_broken_at x p y is all =
        let same : d ++ x.good ≡ (d ++ p) ++ y ∷ [] = rw (is, append_assoc) in
        elim (holds.ends (d ++ p) y) [
          | inl whole ↦
              (let fine = rw (← same) at whole in
              broken x.good _ _ (content_spelt d _ _ 0 (omega arith) x.begun (λ _ _. fine)) x.takes x.between
              (text_closed d _ _ r x.begun (holds.whole last _ fine)) (N.WritesPrefix-longer h i _ _ _ x.breaks))
          | inr none ↦
              (let front = (N.joins_by_name c).front (d ++ p) _ (rw same at x.begun) in
              broken p _ _ (front_spelt d p 0 (omega (arith, N.length-append p (y ∷ []), ap length is)) front) (rw (is, append_assoc) at x.takes) x.between
              (text_grown d p r 0 front) (rw (is, adds_none d p y (rw is at x.begun) none) at x.breaks))
        ]

    piece_broken : N.WritesPrefixOfData c d (suc r) a b h i stop → Stopped true
    piece_broken x =
        elim (N.cases_lt (length x.good) (suc r)) [
          | inl less ↦ broken x.good x.ahead _ (front_spelt d x.good _ (omega arith) x.begun) x.takes x.between
              (text_grown d x.good r (r - length x.good) x.begun) x.breaks
          | inr more ↦
              (let s = split_last r x.good (omega arith) in
              piece_broken_at x s.0 s.1 s.2 (omega arith))
        ]

    piece_stops : {failed : Bool} → N.StopsData c d column (suc r) a b place h i failed stop → Stopped failed
    piece_stops (inl x) = rw x.2 (piece_cut x.0 x.1)
    piece_stops (inr (inl x)) = rw x.1 (piece_refused x.0)
    piece_stops (inr (inr x)) = rw x.1 (piece_broken x.0)

  -- the content stopped in one of its pieces
  pub filling_stops : {d : List ℕ} {m : ℕ} {p : At} {e : Halt} → until (N.StopsFilling c d column m) p e → until (StopsField (state m d) column last) p e
  filling_stops {m = m} x =
      let r = m - length x.front - 1 in
      let left : m - length x.front ≡ suc r = omega arith in
      path_stops (fills_path m r (omega arith) x.fills) (piece_stops _ _ _ _ x.there _ _ _ x.fills.few x.fills.delivered (rw left at x.stops))

  -- ---- the last piece

  module _ {d kept : List ℕ} {m : ℕ} {p q : At} (x : over (N.EndsData c d kept) p q m) where
    abbrev all_content : List ℕ
    all_content = (d ++ x.front) ++ x.takes.piece

    abbrev last_left : ℕ
    last_left = x.last - 1

    front_path : Path (cell column) (cell_so_far column last) (state m d) p (record { seen = x.middle; place = x.there; held = x.between })
        (state (suc last_left) (d ++ x.front))
    front_path = grind (arith, fills_path)

    last_spelt : Good all_content → Spelt (cell column) (state (suc last_left) (d ++ x.front)) x.takes.piece (state 0 all_content)
    last_spelt good = grind (arith, content_spelt)

    -- all of it was read and its text put, and what ends it
    pub ends_path : {j : SinkView} → Good all_content → Puts q.held j (tail last all_content)
        → Path (cell column) (cell_so_far column last) (state m d) p (record q { held = j }) (state 0 all_content)
    ends_path good puts =
        let whole = holds.whole last _ good in
        path_both front_path (record {
          bytes = x.takes.piece;
          made = added_text c _ _ ++ tail last all_content;
          writes = grind (arith, last_spelt, text_closed);
          takes = grind arith;
          puts = N.Puts-trans _ q.held _ _ _ x.takes.puts puts;
          place_is = omega arith;
        })

    -- a write of what ends it failed
    pub ends_break : {j : SinkView} {stop : Stop} → Good all_content → N.WritesPrefix q.held j (tail last all_content) stop
        → StopsField (state m d) column last p.seen q.seen p.place p.held j true stop
    ends_break good breaks =
        let taken = rw (sym (append-nil x.takes.piece)) at x.takes.takes in
        path_stops front_path (broken _ _ _ _ _ _ _ _ x.fills.few x.fills.delivered _ [] _ (last_spelt good) taken x.takes.between
        (text_closed _ _ _ _ x.takes.begun (holds.whole last _ good)) (N.WritesPrefix-after _ _ _ _ _ _ x.takes.puts breaks))

    -- where the content isn't whole, its last byte is refused
    pub ends_refused : ((e : List ℕ) (y : ℕ) → is_fit c (e ++ y ∷ []) ≡ false → N.cell_fault column (state 1 e) (y ∷ []) ≡ Some (BadText column))
        → is_fit c all_content ≡ false
        → StopsField (state m d) column last p.seen q.seen p.place p.held q.held false
        (record { fault = BadText column; place = N.Payload (q.place - 1) })
    ends_refused bad unfit =
        let s = split_last last_left x.takes.piece (omega arith) in
        let e = d ++ x.front in
        let f = s.0 in
        let y = s.1 in
        let same : e ++ _ ≡ _ ++ y ∷ [] = sym (append_assoc e f _) in
        let begun = rw s.2 at x.takes.begun in
        let unfit_here = rw (s.2, same) at unfit in
        let adds = adds_none e f y begun (N.unfit_adds_none c _ y unfit_here) in
        let stands : x.there + length f ≡ q.place - 1 = omega arith in
        path_stops front_path (rw stands at (byte_refused {a = x.middle} {h = x.between} {i = q.held} {m = suc last_left} e f [] y 0 x.there
        (omega arith) ((N.joins_by_name c).front _ _ (rw same at begun)) (bad _ y unfit_here) (rw s.2 at x.takes.takes)
        x.takes.between (grind arith)))

-- ---- the content of a short value, and of a chunk

module _ (column : ℕ) (c : Conversion) where
  -- the end of a value that is whole
  pub ending_text : (last : Bool) (d : List ℕ) → is_fit c d ≡ true
      → after_comma column (open_field c d) ++ ending c (is_quoted c) last d ≡ N.in_line column last (N.long_field c d)
  ending_text last d fit =
      let rest = N.conversion_text c _ in
      let close = N.closing _ in
      ap (λ l. after_comma column (open_field c d) ++ l) (sym (append_assoc rest close _)) ∙ sym (append_assoc _ (rest ++ close) _)
      ∙ ap (λ l. l ++ N.end_after last) (grind (arith, after_append, N.open_closes))

  pub short_holds : HoldsContent column c (short_left c) (λ d. is_fit c d ≡ true) (ending c (is_quoted c))
  short_holds = search (N.rules, N.unfit_adds_none, ending_text)

  -- where the content isn't whole, its last byte is refused
  pub short_refused : (e : List ℕ) (y : ℕ) → is_fit c (e ++ y ∷ []) ≡ false → N.cell_fault column (short_left c 1 e) (y ∷ []) ≡ Some (BadText column)
  short_refused e y unfit = grind arith

  pub chunk_holds : (total : Option ℕ) → HoldsContent column c (chunk_left c total) (λ _. Unit {0}) (λ _ _. [])
  chunk_holds _ = search N.rules

-- ---- no content

open_none : (c : Conversion) → opening (is_quoted c) ≡ open_field c []
open_none N.HexDigits = search (N.rules, emit_none)
open_none N.Utf16Text = ap (λ l. N.quote ∷ l) (sym (emit_none N.Utf16Text))
open_none N.Windows1252Text = cc
open_none N.Utf8Text = grind arith

-- ---- parts of a field, one after the other

pub field_of : {column : ℕ} {last : Bool} {s : CellPart} {p q : At} {value : N.Cell}
    → Path (cell column) (cell_so_far column last) s p q (N.WholeCell value) → over (PutsField s column last) p q
field_of {value = value} x = record { value = value; streams = grind arith; place_is = x.place_is }

-- what was read and put, and then the rest of the field
pub field_puts : {column : ℕ} {last : Bool} {s t : CellPart} {p q r : At} → Path (cell column) (cell_so_far column last) s p q t
    → over (PutsField t column last) q r → over (PutsField s column last) p r
field_puts x y = field_of (path_both x (N.Paths.path_of y.streams y.place_is))

-- the reading stopped before any text
pub reading_stops : {column place : ℕ} {s : CellPart} {a b : PayloadView} {h : SinkView} {failed : Bool} {stop : Stop} (last : Bool) → N.Counts h
    → failed ≡ false → N.StopsReading (cell column) s a b place s stop → StopsField s column last a b place h h failed stop
reading_stops {s = s} _ delivered going x = record { at = s; cause = grind (arith, N.Puts-none, append-nil) }

module _ {column place' : ℕ} {s t : CellPart} {p : At} {b : PayloadView} (last : Bool) (x : Next column s p.seen b p.place place' t) where
  -- an element was read, and its text put
  pub next_path : {i : SinkView} (added : List ℕ) → cell_so_far column last s ++ added ≡ cell_so_far column last t → Puts p.held i added
      → Path (cell column) (cell_so_far column last) s p (record { seen = b; place = place'; held = i }) t
  next_path added text_is puts = record {
    bytes = x.element;
    made = added;
    writes = record
        { spelt = rw x.to at (N.Spelt-one _ s _ x.next); text_is = text_is };
    takes = x.takes;
    puts = puts;
    place_is = x.place_is;
  }

  -- a write of it failed
  pub next_breaks : {j : SinkView} {failed : Bool} {stop : Stop} (part rest : List ℕ) → N.HasRoom p.held → N.Counts p.held
      → failed ≡ true → cell_so_far column last s ++ (part ++ rest) ≡ cell_so_far column last t → N.WritesPrefix p.held j part stop
      → StopsField s column last p.seen b p.place p.held j failed stop
  next_breaks part rest few delivered broken text_is breaks = record {
    at = s;
    cause = inr (
      record {
        bytes = [];
        element = x.element;
        ahead = [];
        spelt = grind arith;
        next = x.next;
        takes = search N.rules;
        between = x.between;
        middle = p.held;
        few = few;
        puts = ([], append-nil _, N.Puts-none _ delivered);
        more = part ++ rest;
        text_is = cc;
        breaks = N.WritesPrefix-longer _ _ _ _ _ breaks;
      },
      broken,
    );
  }

-- NULL was put, or a write of it failed
pub null_puts : {column place place' : ℕ} {s : CellPart} {a b : PayloadView} {W U : Type 0} {contents : N.Tells W} {h k : N.Sink W} {r : N.Result U Stop}
    (last : Bool) → Next column s a b place place' (N.WholeCell N.Null)
    → cell_so_far column last s ≡ [] → N.IsWriting h → N.PutsPiece contents h k (N.in_line column last N.null_field) r
    → N.MatchResult r (λ _. PutsField s column last a b place place' (held contents h) (held contents k))
    (λ stop. StopsField s column last a b place (held contents h) (held contents k) k.failed stop)
null_puts {column = column} {r = N.Ok u} last x silent _ puts =
    field_of (next_path last x _ (grind arith) puts.gives)
null_puts {column = column} {r = N.Err e} last x silent writing puts =
    next_breaks last x _ [] (writing.ready.1 writing.writing) writing.ready.2 puts.failed
    (grind arith) (puts.gives writing.writing)

-- ---- short values

module _ (column : ℕ) (last : Bool) (c : Conversion) where
  -- the text that comes with the length
  pub short_open : {n : ℕ} → 0 < n → after_comma column (opening (is_quoted c)) ≡ cell_so_far column last (short_left c n [])
  short_open some = grind (arith, open_none)

  empty_open : after_comma column (opening (is_quoted c)) ++ ending c (is_quoted c) last [] ≡ cell_so_far column last (short_left c 0 [])
  empty_open = grind (arith, open_none, ending_text, N.no_data_is_fit)

  pub short_text : (n : ℕ) → (q : List ℕ) × (after_comma column (opening (is_quoted c)) ++ q ≡ cell_so_far column last (short_left c n []))
  short_text N.zero = grind (arith, empty_open)
  short_text (suc n) = grind (arith, short_open)

  -- the value has no bytes, and its end was put, or that stopped
  pub empty_puts : {p : At} {b : PayloadView} {place' n : ℕ} {j : SinkView} (i : SinkView)
      → Next column (N.ShortLength c) p.seen b p.place place' (short_left c n [])
      → n ≡ 0 → Puts p.held i (after_comma column (opening (is_quoted c))) → Puts i j (ending c (is_quoted c) last [])
      → PutsField (N.ShortLength c) column last p.seen b p.place place' p.held j
  empty_puts {p = p} i x none opened ended = field_of (next_path last (rw none at x) _ empty_open (N.Puts-trans p.held i _ _ _ opened ended))

  pub empty_stops : {p : At} {b : PayloadView} {place' n : ℕ} {j : SinkView} {failed : Bool} {stop : Stop} {i : SinkView} {there : ℕ}
      → Next column (N.ShortLength c) p.seen b p.place place' (short_left c n []) → n ≡ 0 → Puts p.held i (after_comma column (opening (is_quoted c)))
      → N.HasRoom p.held → N.Counts p.held
      → StopsEnding c (is_quoted c) last [] column there i j failed stop
      → StopsField (N.ShortLength c) column last p.seen b p.place p.held j failed stop
  empty_stops {p = p} {i} x none opened few delivered (inl y) =
      let text = after_comma column _ ++ ending c _ last [] in
      next_breaks last (rw none at x) text [] few delivered y.2 (append-nil text ∙ empty_open) (N.WritesPrefix-after p.held i _ _ _ _ opened y.1)
  empty_stops x _ _ _ _ (inr y) = grind arith

  -- the value has some bytes: its end was put, or that stopped
  module _ {kept : List ℕ} {n : ℕ} {p q : At} (x : over (N.EndsData c [] kept) p q n) where
    abbrev all : List ℕ
    all = x.front ++ x.takes.piece

    pub short_whole : {k : SinkView} → N.IsFit c all → Puts q.held k (ending c (is_quoted c) last all)
        → PutsField (short_left c n []) column last p.seen q.seen p.place q.place p.held k
    short_whole fit puts = let good = (N.fit_by_test c all).1 fit in
        field_of (ends_path last (short_holds column c) x good puts)

    pub short_end_stops : {k : SinkView} {failed : Bool} {stop : Stop} → StopsEnding c (is_quoted c) last all column (q.place - 1) q.held k failed stop
        → StopsField (short_left c n []) column last p.seen q.seen p.place p.held k failed stop
    short_end_stops (inl z) = let good = (N.fit_by_test c all).1 z.0 in
        rw z.2 (ends_break last (short_holds column c) x good z.1)
    short_end_stops (inr z) = rw (z.3, z.2, z.1) (ends_refused last (short_holds column c) x (short_refused column c) (grind (arith, N.fit_by_test)))

-- ---- values in chunks

-- the text that comes with the total
pub total_text : (column : ℕ) (last : Bool) (c : Conversion) (t : Option ℕ)
    → after_comma column (opening (is_quoted c)) ≡ cell_so_far column last (ChunkLength c t [])
total_text _ _ c t = grind (arith, open_none)

-- Chunks were read and their text put; so many bytes of content stand before the next length.
pub record Streamed (column : ℕ) (last : Bool) (c : Conversion) (total : Option ℕ) (kept : List ℕ) (sum : ℕ) (p q : At) : Type 0 where
  pub content : List ℕ
  pub counted : length content ≡ sum
  pub begun : BeginsData c content
  pub kept_is : kept ≡ N.conversion_rest c content
  pub path : Path (cell column) (cell_so_far column last) (ChunkLength c total []) p q (ChunkLength c total content)

pub streamed_none : {column : ℕ} {last : Bool} {c : Conversion} {total : Option ℕ} {kept : List ℕ} {p : At} → kept ≡ N.conversion_rest c []
    → N.Counts p.held → Streamed column last c total kept 0 p p
streamed_none is delivered = grind (arith, N.Paths.path_none)

module _ {column : ℕ} {last : Bool} {c : Conversion} {total : Option ℕ} {kept : List ℕ} {sum : ℕ} {p q : At} (size : ℕ) (unit_is : size ≡ N.unit c)
    (x : Streamed column last c total kept sum p q) {d : PayloadView} {there n : ℕ} (y : N.ReadsNumber 4 q.seen d q.place there n)
    (free : N.chunk_length_fault column size total sum n ≡ N.None) where
  -- the terminator was read, and the end put
  pub chunks_whole : {j : SinkView} → n ≡ 0 → N.IsFit c x.content → Puts q.held j (ending c (is_quoted c) last x.content)
      → PutsField (ChunkLength c total []) column last p.seen d p.place there p.held j
  chunks_whole none fit puts =
      let good = (N.fit_by_test c x.content).1 fit in
      field_of (path_both x.path (next_path last (chunk_end c unit_is x.counted y free none good) _ (grind (arith, ending_text)) puts))

  pub chunks_end_stops : {j : SinkView} {failed : Bool} {stop : Stop} → N.HasRoom q.held → N.Counts q.held → n ≡ 0
      → StopsEnding c (is_quoted c) last x.content column q.place q.held j failed stop
      → StopsField (ChunkLength c total []) column last p.seen d p.place p.held j failed stop
  chunks_end_stops few delivered none (inl z) =
      let good = (N.fit_by_test c _).1 z.0 in
      let tail = ending c _ last _ in
      path_stops x.path (next_breaks last (chunk_end c unit_is x.counted y free none good) tail [] few delivered z.2
      (grind (arith, append-nil, ending_text)) z.1)
  chunks_end_stops _ delivered none (inr z) =
      path_stops x.path (rw (z.1, z.2) (reading_stops last delivered z.3 (N.Numbers.chunk_unfit c unit_is x.counted y free none
      (grind (arith, N.fit_by_test)))))

  pub chunk_path : {k : ℕ} → k ≡ n → k ≢ 0 → N.Counts q.held
      → Path (cell column) (cell_so_far column last) (ChunkLength c total []) p (record { seen = d; place = there; held = q.held })
      (chunk_left c total k x.content)
  chunk_path is some delivered =
      let text : cell_so_far column last (ChunkLength c total _) ++ [] ≡ cell_so_far column last _ = grind (arith, append-nil) in
      path_both x.path (next_path _ (grind arith) _ text (N.Puts-none _ delivered))

  pub streamed_more : {kept' : List ℕ} {r : At} {k : ℕ} → k ≡ n → k ≢ 0 → N.Counts q.held → N.Counts r.held
      → N.EndsData c x.content kept' d r.seen there r.place q.held r.held k → Streamed column last c total kept' (sum + k) p r
  streamed_more {r = r} is some delivered most z =
      record {
        content = _ ++ z.takes.piece;
        counted = grind (arith, N.length-append);
        begun = grind arith;
        kept_is = cc;
        path = path_both (chunk_path is some delivered) (ends_path last (chunk_holds column c total) z tt (N.Puts-none r.held most));
      }
