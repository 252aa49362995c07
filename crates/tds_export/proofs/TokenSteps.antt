-- The tokens, as they are read and their text is put.
use Rattle.tds_export.proofs as N
use N.{Bool, Charset, Fault, Grammar, SinkView, IsHolding, List, Option, Part, Progress, PayloadView, Space, Stop, Token, View, [], ap, append-nil}
use N.{arith, between, false, in_metadata, inl, inr, length, refl, sym, text, text_so_far, view_of, with_row, ℕ, ◌++◌, ◌+◌, ◌-◌, ◌<◌, ◌^◌, ◌∙◌, ◌∷◌, ◌≡◌, ◌≤◌}
use N.{Cell, IsNext, None, Row, RowsPart, Some, append_assoc, map, response, rows, true, after_tokens, columns_of}
use N.ResponseLaws.{description_agrees, row_agrees, part_at, inside, read_inside, stop_inside}
use N.TokenLaws.{bare, bare_fixed, begun_after, begun_where_sets, encoded_after-append, greatest_span-append, is_bare, same_first, texts}
use N.TokenLaws.{tracked, tracks_row, with_rows}

-- A token has begun: what the tokens before it left is known, and the sink goes on.
pub record OpenTexts (tokens : List Token) (progress : Progress) (u : View) : Type 0 where
  pub tracks : N.TracksBefore progress tokens
  pub holds : IsHolding u.area (after_tokens tokens)
  pub noted : N.IsNoted u.notice tokens
  pub delivered : u.held.delivered ≤ 2 ^ 64 - 1
  pub going : u.failed ≡ false

-- a token was read and no text put
abbrev pub ReadsQuiet : Charset → Part → List Token → View → PayloadView → ℕ → Progress → Type 0
ReadsQuiet charset from tokens u b place progress = N.ReadsNext charset from tokens u (record u { seen = b; place = place }) progress

-- or that stopped
abbrev pub StopsQuiet : Charset → Part → View → PayloadView → Stop → Type 0
StopsQuiet charset from u b stop = N.StopsIn charset from u (record u { seen = b }) stop

-- nothing more is put for the same text
pub same_text : (p q : Part) (h : SinkView) → text_so_far p ≡ text_so_far q → h.delivered ≤ 2 ^ 64 - 1 → N.PutsText text_so_far p q h h
same_text = grind (arith, append-nil, N.Puts-none)

module _ {g : Grammar Part Fault} {s t : Part} {a b c : PayloadView} {h i k : SinkView} (x : N.Streams g text_so_far s a b h i t) where
  -- what is read and put in one call and then in another
  abbrev pub streams_both : {u : Part} → N.Streams g text_so_far t b c i k u → N.Streams g text_so_far s a c h k u
  streams_both {u} y = record {
    bytes = x.bytes ++ y.bytes;
    spelt = grind (arith, N.Spelt-append);
    takes = N.takes_both a b c _ _ x.takes y.takes;
    puts = N.puts_both text_so_far s t u h i k x.puts y.puts;
  }

  -- what stops a call stops one that read on before it
  pub stops_further : {place middle : ℕ} {area : Space} {failed : Bool} {stop : Stop} → middle ≡ place + length x.bytes
      → N.StepStops g t b c middle i k area failed stop → N.StepStops g s a c place h k area failed stop
  stops_further at (inl y) = inl (
    record {
      at = y.0.at;
      stops = N.stops_after g s t a b c _ _ _ (grind arith) (rw at at y.0.stops);
      puts = N.puts_both text_so_far s t y.0.at h i k x.puts y.0.puts;
      holds = y.0.holds;
    },
    y.1,
  )
  stops_further at (inr y) = inr (record { at = y.0.at; breaks = N.breaks_after g _ s t a b c h i k _ _ x y.0.breaks; holds = y.0.holds }, y.1)

-- a reading that put no text stopped
pub stops_quietly : {g : Grammar Part Fault} {place : ℕ} {s at : Part} {a b : PayloadView} {h : SinkView} {area : Space} {failed : Bool} {stop : Stop}
    → text_so_far s ≡ text_so_far at → IsHolding area at → h.delivered ≤ 2 ^ 64 - 1 → failed ≡ false → N.StopsReading g s a b place at stop
    → N.StepStops g s a b place h h area failed stop
stops_quietly = grind (arith, same_text)

-- a token that describes nothing leaves the area holding what it held
pub holds-snoc : {area : Space} {tokens : List Token} (t : Token) → N.encoded_after (N.encoded_after [] tokens) (t ∷ []) ≡ N.encoded_after [] tokens
    → IsHolding area (after_tokens tokens) → IsHolding area (after_tokens (tokens ++ t ∷ []))
holds-snoc = grind (arith, encoded_after-append, greatest_span-append)

module _ {tokens : List Token} {s : Progress} {u : View} (begun : OpenTexts tokens s u) where
  -- the first element after the token byte stopped the call
  pub stops_first : {g : Grammar Part Fault} {at : N.Open} {a b : PayloadView} {place : ℕ} {stop : Stop} → N.description_of tokens at
      ≡ N.encoded_after [] tokens → N.open_span at ≡ 0 → N.StopsReading g (part_at tokens at) a b place (part_at tokens at) stop
      → N.StepStops g (part_at tokens at) a b place u.held u.held u.area u.failed stop
  stops_first same none stops = stops_quietly refl (grind arith) begun.delivered begun.going stops

  -- what was read added no error, and the notice is the same
  pub quietly : {g : Grammar Part Fault} {from : Part} {a b : PayloadView} {place place' : ℕ} {h k : SinkView} {t : Progress} {area' : Space}
      → t.report.errors ≡ s.report.errors → N.ReadsTokens g from tokens a b place place' h k t area'
      → (x : N.ReadsTokens g from tokens a b place place' h k t area') × N.IsNoted u.notice (tokens ++ x.more)
  quietly same x = (x, grind (arith, same_first))

  module _ {g : Grammar Part Fault} {from : Part} {progress : Progress} {a b : PayloadView} {place place' : ℕ} (t : Token)
      (r : N.Reads g from a b (N.with_token tokens t)) (at : place' ≡ place + length r.bytes) where
    -- a token was read, and its text put
    abbrev token_reads : {after : SinkView} {area : Space} → N.PutsText text_so_far from (N.with_token tokens t) u.held after
        → N.Tracks progress (tokens ++ t ∷ []) → IsHolding area (N.with_token tokens t)
        → N.ReadsTokens g from tokens a b place place' u.held after progress area
    token_reads puts tracks holds = record {
      more = t ∷ [];
      streams = record { bytes = r.bytes; spelt = r.spelt; takes = r.takes; puts = puts };
      place_is = at;
      tracks = tracks;
      holds = holds;
    }

    -- a token that has no text and describes nothing was read
    abbrev pub bare_reads : text_so_far from ≡ text tokens ++ [] → is_bare t ≡ true → N.Tracks progress (tokens ++ t ∷ [])
        → N.ReadsTokens g from tokens a b place place' u.held u.held progress u.area
    bare_reads none is tracks = token_reads (same_text from (N.with_token tokens t) u.held (grind (arith, bare, texts)) begun.delivered) tracks
        (holds-snoc t ((bare is).encoded _) begun.holds)

module _ (charset : Charset) {tokens : List Token} {s : Progress} {u : View} (begun : OpenTexts tokens s u) {b : PayloadView} {place : ℕ} where
  -- a token with fields of a fixed length was read
  pub fixed_reads : {progress : Progress} {which : N.Fixed} (fields : List ℕ) → place ≡ u.place + N.fields_length which
      → length fields ≡ N.fields_length which → N.Takes u.seen b fields (N.fields_length which) → N.Tracks progress (tokens ++ N.fixed which fields ∷ [])
      → progress.report.errors ≡ s.report.errors → ReadsQuiet charset (N.in_fields which tokens) tokens u b place progress
  fixed_reads _ at len takes tracks same = quietly begun same (bare_reads begun _ (grind (arith, N.reads_one)) (rw len at) refl
      (bare_fixed _ _) tracks)

-- ---- ROW

-- no text stands for a row that has begun
start_text : (charset : Charset) (columns : List N.Column) (tokens : List Token) → 0 < length columns
    → text_so_far (N.in_row charset columns tokens) ≡ text tokens ++ []
start_text _ [] _ some = grind arith
start_text _ (c ∷ cs) _ some = simp N.start_quiet

-- and while a row is read
row_holds : {area : Space} {tokens : List Token} (part : N.RowPart) → IsHolding area (after_tokens tokens) → IsHolding area (with_row tokens part)
row_holds (N.WholeRow cells) h = holds-snoc _ refl h
row_holds _ h = grind arith

module _ (charset : Charset) (room : ℕ) {place : ℕ} {start : N.RowPart} {area : Space} {before after : SinkView} {a b : PayloadView} {failed : Bool} {stop
    : Stop}
    {tokens : List Token} where
  -- a row stopped the call
  row_stops : IsHolding area (after_tokens tokens) → N.StopsStreaming (N.row charset) N.row_so_far start a b place before after failed stop
      → N.StepStops (response charset room) (with_row tokens start) a b place before after area failed stop
  row_stops holds x =
      let agrees = row_agrees charset room in
      let text_is : (p : N.RowPart) → text tokens ++ N.row_so_far p ≡ text_so_far (with_row tokens p) = grind (arith, texts) in
      elim x.cause [
        | inl y ↦ inl (
          record {
            at = with_row tokens x.at;
            stops = stop_inside agrees y.0;
            puts = N.puts_inside _ _ _ (inside agrees) N.row_so_far text_so_far (text tokens) text_is start x.at _ _ y.1;
            holds = grind (arith, row_holds);
          },
          y.2,
        )
        | inr y ↦ inr (
          record {
            at = with_row tokens x.at;
            breaks = N.breaks_inside _ _ _ (inside agrees) N.row_so_far text_so_far (text tokens) text_is start a b _ _ x.at stop y.0;
            holds = rw ((inside agrees).add x.at y.0.element (grind arith)) (row_holds _ holds);
          },
          y.1,
        )
      ]

-- ---- COLMETADATA

some_bytes : (room : ℕ) {area : List ℕ} (bytes : List ℕ) {columns : List N.Column}
    → N.Spelt (N.description room) N.BeforeCount bytes (N.WholeDescription area columns) → 0 < length bytes
some_bytes _ [] h = absurd (let same = N.one_state _ _ _ _ _ h (N.Spelt-none _ _) in cc)
some_bytes _ (x ∷ bytes) h = omega arith

module _ (charset : Charset) {tokens : List Token} {s : Progress} {u : View} {area : Space} {b : PayloadView} (begun : OpenTexts tokens s u) where
  -- a Count of no metadata was read
  pub none_reads : {place : ℕ} → N.Describes u.area.room N.BeforeCount u.seen b u.place place u.area.peak area N.NoDescription
      → N.ReadsNext charset (in_metadata tokens) tokens u (record u { seen = b; place = place; area = area }) (record s { described = false })
  none_reads x = quietly begun refl (token_reads begun N.NoMetadata (read_inside (description_agrees _ _) x.reads) x.place_is
      (same_text (in_metadata tokens) (N.with_token tokens N.NoMetadata) _ (simp texts) begun.delivered)
      (grind (arith, tracked)) (grind (arith, encoded_after-append, greatest_span-append)))

  -- the description is cut or refused
  pub metadata_stops : {stop : Stop} → N.StopsDescribing u.area.room N.BeforeCount u.seen b u.place u.area.peak area stop
      → N.StopsIn charset (in_metadata tokens) u (record u { seen = b; area = area }) stop
  metadata_stops x = stops_quietly (grind arith) (grind arith) begun.delivered begun.going (stop_inside (description_agrees _ _) x.stops)

  module _ {columns : List N.Column} {place : ℕ} {after : SinkView} (shown : columns_of area.bytes ≡ columns)
      (x : N.Describes u.area.room N.BeforeCount u.seen b u.place place u.area.peak area (N.WholeDescription area.bytes columns)) where
    -- the description was read, and its header put
    pub metadata_reads : N.Puts u.held after (between (N.nat_lt 0 s.report.sets) ++ N.header_line (columns_of area.bytes))
        → N.ReadsNext charset (in_metadata tokens) tokens u (record u { seen = b; place = place; held = after; area = area })
        (record s { report = record s.report { sets = s.report.sets + 1 }; described = true })
    metadata_reads puts = quietly begun refl (token_reads begun (N.Metadata area.bytes columns) (read_inside (description_agrees _ _) x.reads) x.place_is
        (grind (arith, between, begun_after, begun_where_sets, texts)) (grind (arith, tracked, shown))
        (grind (arith, encoded_after-append, greatest_span-append)))

    -- the description was read, and the writer failed at its header
    pub metadata_breaks : {stop : Stop} → length u.held.waiting < 4096 → N.IsBetween b
        → N.WritesPrefix u.held after (between (N.nat_lt 0 s.report.sets) ++ N.header_line (columns_of area.bytes)) stop
        → N.StopsInWriting (response charset u.area.room) (in_metadata tokens) u.seen b u.held after area stop
    metadata_breaks few between_b breaks =
        let header = between _ ++ N.header_line columns in
        let l = N.last_inside _ _ _ (inside (description_agrees _ _)) _ _ _ x.reads.spelt (some_bytes _ _ x.reads.spelt) in
        record {
          at = N.with_described tokens l.at;
          breaks = record {
            bytes = l.front;
            element = l.element;
            ahead = [];
            spelt = l.spelt;
            next = l.next;
            takes = grind (arith, append-nil);
            between = between_b;
            middle = u.held;
            few = few;
            puts = same_text (in_metadata tokens) (N.with_described tokens l.at) _ (grind arith) begun.delivered;
            more = header;
            text_is = grind (arith, begun_where_sets, texts);
            breaks = rw shown at breaks;
          };
          holds = grind (arith, encoded_after-append, greatest_span-append);
        }

-- A token has begun where the run goes on.
pub begun_in : {R W : Type 0} (remaining : R → Option (List ℕ)) (contents : W → Option (List ℕ)) {old : N.Exporter R W} {tokens : List Token}
    → N.IsRunning old → N.TracksBefore old.progress tokens → IsHolding old.description.now (after_tokens tokens) → N.IsNoted old.notice.now tokens
    → OpenTexts tokens old.progress (view_of remaining contents old)
begun_in = grind arith

-- The token was read, or that stopped, whatever the tokens before it are.
pub step_read : {R W U : Type 0} {remaining : R → Option (List ℕ)} {contents : W → Option (List ℕ)} {from : List Token
    → Part} {old new : N.Exporter R W} {result : N.Result U Stop} → N.IsRunning old → N.LeavesRun old new result
    → (let view = view_of remaining contents in (tokens : List Token) → OpenTexts tokens old.progress (view old)
    → N.MatchResult result (λ _. N.ReadsNext old.charset (from tokens) tokens (view old) (view new) new.progress)
    (N.StopsIn old.charset (from tokens) (view old) (view new))) → N.StepRead remaining contents from old new result
step_read = grind arith

-- ---- rows, one after another

-- rows describe no columns
rows_describe : {before : Option (List N.Column)} (rs : List (List Cell)) → N.described_after before (map Row rs) ≡ before
rows_describe [] = refl
rows_describe (r ∷ rs) = rows_describe rs

-- the lines of rows
rows_text : (tokens : List Token) (rs : List (List Cell)) → text (tokens ++ map Row rs) ≡ text tokens ++ N.lines rs
rows_text _ [] = grind (arith, append-nil)
rows_text tokens (r ∷ rs) = grind (arith, append_assoc, (rows_text (tokens ++ Row r ∷ []) rs), texts)

module _ (which : N.RowToken) (charset : Charset) (room : ℕ) (all : List N.Column) (tokens : List Token) where
  -- where a reading of rows is, in its response
  abbrev in_rows : RowsPart → Part
  in_rows p = with_row (tokens ++ map Row p.before) p.at

  in_rows_text : (p : RowsPart) → text_so_far (in_rows p) ≡ text tokens ++ N.rows_so_far p
  in_rows_text = grind (arith, rows_text, append_assoc, texts)

  module _ (known : N.described_after None tokens ≡ Some all) where
    -- an element leads from one of these to another
    abbrev Steps : RowsPart → List ℕ → RowsPart → Type 0
    Steps p e q = IsNext (response charset room) (in_rows p) e × ((response charset room).add (in_rows p) e ≡ in_rows q)

    element_next : {before : List (List Cell)} (p : N.RowPart) (e : List ℕ) → IsNext (rows which charset all) (record { before = before; at = p }) e
        → Steps (record { before = before; at = p }) e ((rows which charset all).add (record { before = before; at = p }) e)
    element_next = grind (arith, append_assoc, N.ResponseLaws.described_after-append, N.map-append, rows_describe)

    -- what is read of rows from their start on and put, is read of the response and put
    abbrev rows_stream : {t : RowsPart} {a b : PayloadView} {h j : SinkView}
        → N.Streams (rows which charset all) N.rows_so_far (record { before = []; at = N.row_start which charset all }) a b h j t
        → N.Streams (response charset room) text_so_far (with_row tokens (N.row_start which charset all)) a b h j (in_rows t)
    rows_stream {t} x =
        let s : RowsPart = record { before = []; at = N.row_start which charset all } in
        let begins = ap (λ ts. with_row ts (N.row_start which charset all)) (append-nil tokens) in
        let spelt = N.Spelt-induct _ (λ p b. N.Spelt (response charset room) (in_rows s) b (in_rows p))
        (λ p b e k n. (let y = element_next p.at e n in N.ResponseLaws.spelt_both k (rw y.1 at (N.Spelt-one _ _ e y.0)))) s (N.Spelt-none _ _) _ t x.spelt
        in
        record {
          bytes = x.bytes;
          spelt = rw begins at spelt;
          takes = x.takes;
          puts = (x.puts.0, grind (arith, in_rows_text s, in_rows_text t, append_assoc, append-nil), x.puts.2);
        }

-- these rows more are N.counted
tracks_rows : {s : Progress} (tokens : List Token) (rs : List (List Cell)) → 0 < length rs → N.TracksBefore s tokens
    → N.Tracks (with_rows s (length rs)) (tokens ++ map Row rs)
tracks_rows _ [] some k = grind arith
tracks_rows _ (r ∷ []) some k = tracks_row k r
tracks_rows {s} tokens (r ∷ q ∷ qs) some k =
    let first = tracks_row k r in
    let n : (s.report.rows + 1) + length (q ∷ qs) ≡ s.report.rows + length (r ∷ q ∷ qs) = omega arith in
    rw (append_assoc, n) at (tracks_rows {s = with_rows s 1} (tokens ++ Row r ∷ []) (q ∷ qs) (omega arith) (grind arith))

-- the description stays what it was
rows_hold : {area : Space} (tokens : List Token) (rs : List (List Cell)) → IsHolding area (after_tokens tokens)
    → IsHolding area (after_tokens (tokens ++ map Row rs))
rows_hold tokens [] h = rw (append-nil tokens) h
rows_hold tokens (r ∷ rs) h = rw (append_assoc tokens (Row r ∷ []) (map Row rs)) at (rows_hold (tokens ++ Row r ∷ []) rs (holds-snoc _ refl h))

-- ---- what the call that reads them gives

module _ {which : N.RowToken} {charset : Charset} {columns : List N.Column} {after : SinkView} {tokens : List Token} {u : View} {b : PayloadView} {s :
    Progress}
    (described : s.described ≡ true) (shown : columns ≡ columns_of u.area.bytes) (begun : OpenTexts tokens s u) where
  -- rows were read, and their lines put
  pub rows_read : {place count : ℕ} → N.ReadsRows which charset columns count u.seen b u.place place u.held after
      → N.ReadsNext charset (with_row tokens (N.row_start which charset (columns_of u.area.bytes))) tokens u
      (record u { seen = b; place = place; held = after }) (with_rows s count)
  rows_read y =
      let x = rw shown at y in
      let long = N.length-append x.earlier (x.last ∷ []) in
      let there = rows_stream _ _ _ _ tokens (grind arith) x.streams in
      let end = ap after_tokens (append_assoc tokens (map Row x.earlier) (Row x.last ∷ [])
      ∙ ap (λ l. tokens ++ l) (sym (N.map-append Row x.earlier (x.last ∷ [])))) in
      quietly begun refl (record {
        more = map Row (x.earlier ++ x.last ∷ []);
        streams = record { bytes = x.streams.bytes; spelt = rw (← end) there.spelt; takes = x.streams.takes; puts = grind arith };
        place_is = x.place_is;
        tracks = rw (long ∙ sym x.counted) at (tracks_rows _ (x.earlier ++ x.last ∷ []) (omega (arith, long)) begun.tracks);
        holds = rows_hold _ (x.earlier ++ x.last ∷ []) begun.holds;
      })

  -- their reading stopped
  pub rows_stop : {failed : Bool} {stop : Stop} → N.RowsStop which charset columns u.seen b u.place u.held after failed stop
      → N.StopsIn charset (with_row tokens (N.row_start which charset (columns_of u.area.bytes))) u
      (record u { seen = b; held = after; failed = failed }) stop
  rows_stop y =
      let x = rw shown at y in
      stops_further (rows_stream _ _ _ _ _ (grind arith) x.streams) refl
      (row_stops _ _ (rows_hold _ x.earlier begun.holds) x.stops)

-- ---- tokens by their first bytes

-- a token byte that is accepted
pub record BeginsToken (charset : Charset) (room : ℕ) (tokens : List Token) (byte : ℕ) (to : Part) : Type 0 where
  pub next : IsNext (response charset room) (after_tokens tokens) (byte ∷ [])
  pub to_is : (response charset room).add (after_tokens tokens) (byte ∷ []) ≡ to
  pub text_is : text_so_far (after_tokens tokens) ≡ text_so_far to

-- a description has columns
some_columns : {bytes : List ℕ} → N.IsDescription bytes → 0 < length (columns_of bytes)
some_columns = grind arith

pub begins_lead : {charset : Charset} {room : ℕ} {tokens : List Token} {byte : ℕ} {described : Bool} {bytes : List ℕ} {begun : N.Lead}
    → (N.lead_of byte ≡ Some begun) × N.IsUnder described begun → bytes ≡ N.encoded_after [] tokens → (described ≡ true → N.IsDescription bytes)
    → N.IsDescribed described (N.encoded_after [] tokens) (N.described_after None tokens)
    → BeginsToken charset room tokens byte (N.in_lead charset (columns_of bytes) begun tokens)
begins_lead = grind (arith, some_columns, start_text)

-- the first byte of a token is read, and nothing put for it
abbrev pub first : {charset : Charset} {room byte : ℕ} {tokens : List Token} {to : Part} {a b : PayloadView} {h : SinkView}
    → BeginsToken charset room tokens byte to
    → h.delivered ≤ 2 ^ 64 - 1 → N.Takes a b (byte ∷ []) 1 → N.Streams (response charset room) text_so_far (after_tokens tokens) a b h h to
first {tokens} {to} {h} begins d t = record {
  bytes = _;
  spelt = rw begins.to_is at (N.Spelt-one _ _ _ begins.next);
  takes = t;
  puts = same_text (after_tokens tokens) to h begins.text_is d;
}

module _ {charset : Charset} {room byte : ℕ} {tokens : List Token} {to : Part} {a : PayloadView}
    {b c : PayloadView} {place middle : ℕ} {h k : SinkView}
    {area : Space} (begins : BeginsToken charset room tokens byte to) (d : h.delivered ≤ 2 ^ 64 - 1) (t : N.Takes a b (byte ∷ []) 1)
    (at : middle ≡ place + 1) where
  -- a token is read after its first byte
  abbrev pub reads_after_byte : {place' : ℕ} {progress : Progress} → N.ReadsTokens (response charset room) to tokens b c middle place' h k progress area
      → N.ReadsTokens (response charset room) (after_tokens tokens) tokens a c place place' h k progress area
  reads_after_byte r = record {
    more = r.more;
    streams = streams_both (first begins d t) r.streams;
    place_is = r.place_is ∙ omega (arith, N.length-append (byte ∷ []) r.streams.bytes);
    tracks = r.tracks;
    holds = r.holds;
  }
