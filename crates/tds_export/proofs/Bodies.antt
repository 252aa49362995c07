-- Tokens with a Length and a body, as they are read.
use Rattle.tds_export.proofs as N
use N.{List, Some, Space, [], arith, first_error, in_length, length, refl, text, ℕ, ◌++◌, ◌+◌, ◌-◌, ◌<◌, ◌∷◌, ◌≡◌, ◌≤◌, Err, Ok, ReadsReturn, PayloadView}
use N.{Stop, Takes, if◌then◌else◌, ◌*◌, Bodied, Token, between, response, true, Ends}
use N.TokenSteps.{OpenTexts, bare_reads, quietly, stops_quietly, ReadsQuiet, StopsQuiet}
use N.ResponseLaws.{Agrees, info_is_read, value_agrees, read_inside, stop_inside, part_cut, fill_cut, return_agrees, body_is_read}

-- a text as far as it fits stays within the room
pub within_room : {s : Space} (text : List ℕ) → s.bytes ≡ [] → s.peak ≤ s.room → (N.appended s (N.whole_within (s.room - length s.bytes) text)).peak ≤ s.room
within_room = grind (arith, N.length-take, N.utf8_valid_len_le)

-- ---- RETURNVALUE as it is read, and in its response

module _ {s t : N.ReturnPart} {a b c : PayloadView} {place middle : ℕ} (x : ReadsReturn s t a b place middle) where
  -- what stops a call stops one that began before it
  pub return_stops_after : {stop : Stop} → N.StopsReturn t b c middle stop → N.StopsReturn s a c place stop
  return_stops_after = grind (arith, N.stops_after)

  -- and so it is where nothing stops
  pub return_reads_after : {u : N.ReturnPart} {place' : ℕ} → ReadsReturn t u b c middle place' → ReadsReturn s u a c place place'
  return_reads_after y = record { reads = grind (arith, N.reads_both); place_is = grind (arith, N.length-append) }

-- the next element was read
return_read : {s t : N.ReturnPart} {a b : PayloadView} {place place' n : ℕ} (element : List ℕ) → 0 < n → N.return_size s ≡ n → N.return_fault s element ≡ N.None
    → N.return_add s element ≡ t → length element ≡ n → Takes a b element n → place' ≡ place + n → ReadsReturn s t a b place place'
return_read element some size free to whole takes at = record { reads = grind (arith, N.reads_one); place_is = rw whole at }

-- ---- the name

module _ {a : PayloadView} (b : PayloadView) {place one : ℕ} (ordinal : List ℕ) (counted : length ordinal ≡ 2) (first : Takes a b ordinal 2) (at : one
    ≡ place + 2)
  where
    -- the ordinal was read
    pub ordinal_read : ReadsReturn N.ReturnOrdinal N.ReturnNameCount a b place one
    ordinal_read = return_read _ (omega arith) refl refl refl counted first at

    -- the ordinal and the count of the name's units were read
    pub front_read : {c : PayloadView} {two : ℕ} (element : List ℕ) → length element ≡ 1 → Takes b c element (length element) → two ≡ one + length element
        → ReadsReturn N.ReturnOrdinal (N.with_return_units (N.slice_index element 0)) a c place two
    front_read _ single second at' = return_reads_after ordinal_read (return_read _ (omega arith) (N.sym single) refl refl refl second at')

-- the name is cut
pub name_cut : (units : ℕ) {n place : ℕ} {a b : PayloadView} {own stop : Stop} {part : List ℕ} → n ≡ 2 * units → length part < n → Ends a b part own
    → stop ≡ N.began_at place own → N.StopsReturn (N.with_return_units units) a b place stop
name_cut units {n} is fewer ends stop_is =
    let some : N.with_return_units units ≡ N.ReturnName n = grind (arith, N.choose_false, N.ne_eqb) in
    rw some (record { at = N.ReturnName n; stops = grind arith })

-- the name was read
pub name_read : (units : ℕ) {n place place' : ℕ} {a b : PayloadView} {name : List ℕ} → n ≡ 2 * units → length name ≡ n → Takes a b name n
    → place' ≡ place + n → ReadsReturn (N.with_return_units units) (N.ReturnHead name) a b place place'
name_read _ {name} is len takes at = record {
  reads = record { bytes = name; spelt = N.ResponseLaws.return_name_is_read _ _ (cc); takes = rw len takes };
  place_is = rw len at;
}

-- ---- the type

-- a type that is read after a name
abbrev after_name : List ℕ → N.TypePart → N.ReturnPart
after_name name N.TypeHead = N.ReturnHead name
after_name name (N.TypeRest byte) = N.ReturnInfo name byte
after_name name (N.KnownType kind) = N.before_value name kind
after_name _ N.NoType = N.ReturnOrdinal

-- a type byte that was read leads to the same
byte_read : (name : List ℕ) (byte : ℕ) (z : N.Bool) → (if z then N.with_return_kind name (N.kind_of (byte ∷ [])) else N.ReturnInfo name byte) ≡ after_name name
    (if z then N.with_known (N.kind_of (byte ∷ [])) else N.TypeRest byte)
byte_read = grind arith

-- a type is read in its return value as by itself
type_agrees : {name : List ℕ} (p : N.TypePart) → 0 < N.returned_type.size p → Agrees N.returned_type N.Words.return_value (after_name name) p
type_agrees = grind (arith, byte_read)

-- whatever the answer is
pub type_taken : (r : N.Result N.Kind Stop) (name head held : List ℕ) (a b c : PayloadView) (place : ℕ) {middle : ℕ} (place' : ℕ) → length head ≡ 8
    → Takes a b head 8
    → middle ≡ place + 8 → N.IfOk r (λ kind. N.ReadsType head held b c middle place' kind)
    → N.MatchResult r (λ kind. N.Reads N.returned_type N.TypeHead a c (N.KnownType kind)) (λ stop. N.StopsType a c (middle - 8) stop)
    → N.MatchResult r (λ kind. ReadsReturn (N.ReturnHead name) (N.before_value name kind) a c place place')
    (λ stop. N.StopsReturn (N.ReturnHead name) a c place stop)
type_taken (Ok kind) _ _ _ a b c _ _ eight takes at x y =
    let known = N.rest_length_of _ _ _ x.info in
    return_reads_after (return_read _ (omega arith) refl (rw known refl) (rw known refl) eight takes at)
    (record { reads = record { bytes = x.rest; spelt = info_is_read _ _ _ known x.info; takes = x.takes }; place_is = x.place_is })
type_taken (Err stop) name _ _ a b c _ _ eight takes at x y =
    let z = N.subst (λ n. N.StopsType a c n stop) (omega arith) y in
    record { at = after_name name z.at; stops = stop_inside (type_agrees) z.stops }

-- ---- the value

-- the value was passed over, or that stopped
pub value_passed : {U : Type 0} (r : N.Result U Stop) (name : List ℕ) (kind : N.Kind) {a b : PayloadView} (c : PayloadView) {place middle : ℕ} (place' : ℕ)
    → ReadsReturn N.ReturnOrdinal (N.before_value name kind) a b place middle
    → N.MatchResult r (λ _. N.PassesCell (N.cell_start kind (N.shape N.return_charset kind)) b c middle place')
    (λ stop. N.StopsPassing (N.cell_start kind (N.shape N.return_charset kind)) b c middle stop)
    → N.MatchResult r (λ _. N.ReadsValue a c place place') (λ stop. N.StopsReturn N.ReturnOrdinal a c place stop)
value_passed (Ok u) name kind c _ x y =
    record {
      value = record { name = name; kind = kind; value = y.value };
      steps = return_reads_after x (record { reads = read_inside value_agrees y.steps.reads; place_is = y.steps.place_is });
    }
value_passed (Err stop) name kind c _ x y =
    return_stops_after x (record { at = N.with_value name kind y.at; stops = stop_inside value_agrees y.stops })

-- ---- tokens with a Length and a body, as they are read

-- before the body of a token
abbrev pub in_body : Bodied → List Token → ℕ → N.Part
in_body which tokens n = record { tokens = tokens; at = N.TokenBody which n }

-- The Length of a body was read.
pub record LengthRead (element : List ℕ) (n : ℕ) (a b : PayloadView) (place middle : ℕ) : Type 0 where
  pub two : length element ≡ 2
  pub is : n ≡ N.little_number 2 element
  pub takes : Takes a b element (length element)
  pub at : middle ≡ place + length element

module _ (charset : N.Charset) (room : ℕ) {n place middle : ℕ} {tokens : List Token} {which : Bodied} {element : List ℕ} {a b c : PayloadView}
    (l : LengthRead element n a b place middle) (long : N.is_notice which ≡ true → 14 ≤ n) where
  -- what stops the reading of the body
  after_length : {stop : Stop} → 0 < n → N.StopsReading (response charset room) (in_body which tokens n) b c middle (in_body which tokens n) stop
      → N.StopsReading (response charset room) (in_length which tokens) a c place (in_body which tokens n) stop
  after_length some stops =
      let to : (response charset room).add (in_length which tokens) element ≡ in_body which tokens n = grind (arith, N.choose_false, N.ne_eqb) in
      N.stops_after _ _ _ a b c _ _ _ (N.reads_one _ _ a b _ _ (grind arith)
      l.takes to) (rw l.at at stops)

  -- the body was read
  abbrev pub body_reads : (body : List ℕ) → length body ≡ n → Takes b c body n → (N.is_notice which ≡ true → N.holds_notice body ≡ true)
      → N.Reads (response charset room) (in_length which tokens) a c (N.with_token tokens (N.bodied which body))
  body_reads body len takes holds = record {
    bytes = element ++ body;
    spelt = body_is_read _ _ _ _ l.two (grind arith) (grind arith) (grind arith);
    takes = N.takes_both a b c _ _ l.takes (rw len takes);
  }

module _ (charset : N.Charset) (room : ℕ) {tokens : List Token} {which : Bodied} (notice : N.is_notice which ≡ true) where
  -- the Length is cut
  pub length_cut : {to : List ℕ} {a b : PayloadView} {place : ℕ} {stop : Stop} → length to ≡ 2
      → ((k : ℕ) × (own : Stop) × (k < length to) × Ends a b (N.take k to) own × (stop ≡ N.began_at place own))
      → N.StopsInNotice charset room tokens which a b place stop
  length_cut two part = record { at = in_length which tokens; stops = fill_cut refl refl two part; in_body = N.inl refl }

  module _ {element : List ℕ} {n place middle : ℕ} {a b : PayloadView} (l : LengthRead element n a b place middle) where
    -- the Length is too short
    pub length_refused : n < 14 → N.IsBetween b → N.StopsInNotice charset room tokens which a b place (record { fault = N.BadNotice; place = N.Payload place })
    length_refused short between =
        record {
          at = in_length which tokens;
          stops = N.refused_at_once _ _ a b _ _ _ (omega arith) l.two (grind (arith, N.test_lt)) l.takes between;
          in_body = N.inl refl;
        }

    -- the body was read
    pub body_passed : {c : PayloadView} → 14 ≤ n → (body : List ℕ) {place' : ℕ} → length body ≡ n → Takes b c body n → place' ≡ middle + n
        → N.holds_notice body ≡ true → N.ReadsNotice charset room tokens which a c place place' body
    body_passed long body whole takes at holds = record {
      reads = body_reads _ _ l (λ e. long) body whole takes (λ e. holds);
      place_is = omega (arith, N.length-append element body);
    }

    module _ {c : PayloadView} {before after : Space} (long : 14 ≤ n) where
      -- the body is cut
      pub body_cut : {stop : Stop} → N.EndsInto b c before after middle n stop → N.StopsInNotice charset room tokens which a c place stop
      body_cut cut = record { at = in_body which tokens n; stops = after_length _ _ l (λ e. long) (omega arith) (grind arith); in_body = N.inr (n, refl) }

      module _ (t : N.TakesInto b c before after n) where
        -- the inner lengths pass the body
        pub body_refused : N.holds_notice t.element ≡ N.false
            → N.StopsInNotice charset room tokens which a c place (record { fault = N.BadNotice; place = N.Payload middle })
        body_refused passes =
            record {
              at = in_body which tokens n;
              stops = after_length _ _ l (λ e. long) (omega arith) (N.refused_into t (omega arith) refl (grind arith));
              in_body = N.inr (n, refl);
            }

        -- the body was read into an area
        pub body_taken : {place' : ℕ} → place' ≡ middle + n → N.holds_notice t.element ≡ true
            → N.ReadsNotice charset room tokens which a c place place' t.element
        body_taken = grind (arith, body_passed)

-- ---- what a run makes of them

module _ (charset : N.Charset) {tokens : List Token} {s : N.Progress} {u : N.View} {b : PayloadView} (begun : OpenTexts tokens s u) where
  -- a notice is cut or refused
  pub notice_stops : {which : Bodied} {stop : Stop} → N.StopsInNotice charset u.area.room tokens which u.seen b u.place stop
      → StopsQuiet charset (in_length which tokens) u b stop
  notice_stops x = stops_quietly (grind (arith, x.in_body)) (grind (arith, x.in_body)) begun.delivered begun.going x.stops

  module _ {place : ℕ} {body : List ℕ} (x : N.ReadsNotice charset u.area.room tokens N.AnError u.seen b u.place place body) where
    abbrev error_reads : {first : N.Option N.ServerError} → first ≡ N.option_map N.server_error (first_error (tokens ++ N.Error (N.notice_of body) ∷ []))
        → N.ReadsTokens (response charset u.area.room) (in_length N.AnError tokens) tokens u.seen b u.place place u.held u.held
        (record s { report = record s.report { errors = s.report.errors + 1; first_error = first } }) u.area
    error_reads is = bare_reads begun (N.Error (N.notice_of body)) x.reads x.place_is refl refl (N.TokenLaws.tracks_error begun.tracks _ is)

    -- the first ERROR was read, and its message noted
    pub first_error_reads : (cleared : Space) {after : Space} → s.report.errors ≡ 0 → cleared.bytes ≡ [] → cleared.room ≡ 512
        → after ≡ N.appended cleared (N.whole_within (cleared.room - length cleared.bytes) (N.characters (N.notice_of body).message))
        → N.ReadsNext charset (in_length N.AnError tokens) tokens u (record u { seen = b; place = place; notice = after })
        (record s { report = record s.report { errors = s.report.errors + 1; first_error = Some (N.server_error (N.notice_of body)) } })
    first_error_reads cleared none no_bytes room_is put =
        let first = N.TokenLaws.first_next tokens (N.notice_of body) (grind (arith, N.TokenLaws.no_errors)) in
        (error_reads (cc), grind arith)

    -- a later ERROR was read
    pub later_error_reads : 0 < s.report.errors
        → ReadsQuiet charset (in_length N.AnError tokens) tokens u b place (record s { report = record s.report { errors = s.report.errors + 1 } })
    later_error_reads = grind (arith, N.TokenLaws.first_stays, error_reads)

  -- a return value stopped the call
  pub return_stops : {stop : Stop} → N.StopsReturn N.ReturnOrdinal u.seen b u.place stop → StopsQuiet charset (N.in_return tokens) u b stop
  return_stops x = stops_quietly (grind arith) (grind arith) begun.delivered begun.going (stop_inside (return_agrees _ _) x.stops)

  -- a return value was read
  pub return_reads : {place : ℕ} → N.ReadsValue u.seen b u.place place
      → ReadsQuiet charset (N.in_return tokens) tokens u b place (record s { report = record s.report { return_values = s.report.return_values + 1 } })
  return_reads x =
      quietly begun refl (bare_reads begun _ (read_inside (return_agrees _ _) x.steps.reads) x.steps.place_is refl refl (grind (arith, N.TokenLaws.tracked)))

  module _ {n middle : ℕ} {which : Bodied} {element : List ℕ} {c : PayloadView} (quiet : N.is_notice which ≡ N.false)
      (l : LengthRead element n u.seen b u.place middle) where
    -- a body of which nothing is kept was read
    pub quiet_reads : {place : ℕ} (body : List ℕ) → length body ≡ n → Takes b c body n → place ≡ middle + n
        → ReadsQuiet charset (in_length which tokens) tokens u c place s
    quiet_reads _ len takes at =
        quietly begun refl (bare_reads begun _ (body_reads _ _ l (grind arith) _ len takes (grind arith)) (grind (arith, N.length-append)) refl
        (N.TokenLaws.bare_body _ _)
        (N.TokenLaws.tracks_body begun.tracks _ _ quiet))

    -- it was cut
    pub quiet_stops : {own stop : Stop} {part : List ℕ} → length part < n → Ends b c part own → stop ≡ N.began_at middle own
        → StopsQuiet charset (in_length which tokens) u c stop
    quiet_stops fewer ends is = stops_quietly refl (grind arith) begun.delivered begun.going
        (after_length _ _ l (grind arith) (omega arith) (part_cut refl refl fewer ends is))
