-- The cells of scalar kinds, as they are read.
use Rattle.tds_rows.proofs as N
use N.{◌≡◌, ◌≢◌, ℕ, ◌+◌, ◌<◌, ◌≤◌, true, List, [], ◌∷◌, ◌++◌, length, refl, ap, arith, Some, None, Kind, Stop, Takes, StallsCell, if◌then◌else◌}
use N.Words.{cell}

-- the next element of a cell is cut
pub cell_cut : {column n place : ℕ} {s : N.CellPart} {a b : N.PayloadView} {stop : Stop} (part : List ℕ) (own : Stop) → N.field_so_far s ≡ None
    → N.cell_size s ≡ n
    → N.cell_end s ≡ Some N.MessageEnded → length part < n → N.Ends a b part own → stop ≡ N.began_at place own → StallsCell s column a b place stop
cell_cut _ _ quiet size end fewer ends is = grind arith

-- A value of so many bytes comes after these, its length if it has one, which is allowed.
pub record ValueAhead (kind : Kind) (column : ℕ) (from : N.CellPart) (front : List ℕ) (n : ℕ) : Type 0 where
  pub spelt : N.Spelt (cell column) from front (N.ScalarBytes kind n)
  pub starts : length front ≡ N.value_start kind
  pub counted : (value : List ℕ) → N.value_length kind (front ++ value) ≡ n
  pub some : 0 < n
  pub scalar : N.is_scalar kind ≡ true
  pub allowed : N.is_length_allowed kind n ≡ true

pub fixed_ahead : {n : ℕ} (column : ℕ) (kind : Kind) → N.fixed_length kind ≡ Some n → ValueAhead kind column (N.ScalarBytes kind n) [] n
fixed_ahead _ _ is = grind arith

pub counted_ahead : {n : ℕ} (column : ℕ) (kind : Kind) → N.fixed_length kind ≡ None → N.is_scalar kind ≡ true → n ≢ 0 → N.is_length_allowed kind n ≡ true
    → ValueAhead kind column (N.ScalarLength kind) (n ∷ []) n
counted_ahead {n} column kind is scalar some allowed =
    let next : N.cell_add (N.ScalarLength kind) (n ∷ []) ≡ N.ScalarBytes kind n = grind arith in
    let first : N.IsNext (cell column) (N.ScalarLength kind) (n ∷ []) = grind arith in
    record { spelt = grind (arith, N.Spelt-one); starts = grind arith; counted = grind arith; some = omega arith; scalar = scalar; allowed = allowed }

-- ---- an element that is refused

module _ {column place : ℕ} {a b : N.PayloadView} where
  -- after these bytes the next element is refused, whose packets alone were read
  refused_there : {from at : N.CellPart} {fault : N.Fault} {there n : ℕ} (bytes element ahead : List ℕ) {all : List ℕ} → N.Spelt (cell column) from bytes at
      → 0 < length element → length element ≡ N.cell_size at → N.cell_fault column at element ≡ Some fault → N.field_so_far at ≡ None
      → (bytes ++ element) ++ ahead ≡ all → there ≡ place + length bytes → Takes a b all n → n ≤ length (bytes ++ element) → N.IsBetween b
      → StallsCell from column a b place (record { fault = fault; place = N.Payload there })
  refused_there {at = at} bytes element ahead spelt some whole first quiet is place_is takes few between = record {
    at = at;
    stops = record {
      bytes = bytes;
      spelt = spelt;
      cause = N.inl (
        record {
          element = element;
          ahead = ahead;
          some = some;
          whole = whole;
          first = first;
          takes = grind arith;
          between = between;
        },
        ap N.Payload place_is,
      );
    };
    quiet = quiet;
  }

  -- a length
  pub length_refused : {n most : ℕ} {kind : Kind} (rest : List ℕ) → n ≢ 0 → N.is_length_allowed kind n ≡ N.false → Takes a b (n ∷ rest) most → most ≤ 1
      → N.IsBetween b → StallsCell (N.ScalarLength kind) column a b place (record { fault = N.BadValueLength column; place = N.Payload place })
  length_refused {n} rest some bad takes few between =
      refused_there [] (n ∷ []) rest (N.Spelt-none _ _) (omega arith) refl (grind arith) refl refl (omega arith) takes few between

  -- the value after its length
  value_refused_there : {n most : ℕ} {kind : Kind} {from : N.CellPart} {front : List ℕ} → ValueAhead kind column from front n → (rest : List ℕ)
      (fault : N.ValueFault) → n ≤ length rest → N.read_of kind (N.take n rest) ≡ N.Err fault → Takes a b (front ++ rest) most → most ≤ length front + n
      → N.IsBetween b → StallsCell from column a b place (N.refusal kind column place fault)
  value_refused_there {n} {kind = kind} {front = front} x rest fault within bad takes few between =
      let whole = N.length-take-le n rest within in
      let is : fault ≡ N.value_faults.Value = grind arith in
      rw is
      (refused_there {at = N.ScalarBytes kind n} {fault = N.BadValue column} {there = place + N.value_start kind} front (N.take n rest) (N.drop n rest)
      x.spelt (rw whole x.some) whole (grind arith) refl (grind (arith, N.append_assoc, N.take-append-drop)) (omega (arith, x.starts)) takes
      (omega (arith, N.length-append front (N.take n rest))) between)

-- ---- cells that are read into an area

-- the length that an empty area got
pub length_taken : {a b : N.PayloadView} {before after : N.Space} {n : ℕ} → before.bytes ≡ [] → N.slice_index after.bytes 0 ≡ n → N.TakesInto a b before after 1
    → (after.bytes ≡ n ∷ []) × (Takes a b (n ∷ []) 1)
length_taken none is x = grind (arith, N.common_steps)

module _ {kind : Kind} {column n : ℕ} {from : N.CellPart} {front : List ℕ} (x : ValueAhead kind column from front n) (a b d : N.PayloadView) (place : ℕ)
    (first : Takes a b front (length front)) where
  -- where the value stops, the cell does
  stalls_after : {stop : Stop} → StallsCell (N.ScalarBytes kind n) column b d (place + length front) stop → StallsCell from column a d place stop
  stalls_after y = record {
    at = y.at;
    stops = N.stops_after _ _ _ _ _ _ _ _ _ (record { bytes = front; spelt = x.spelt; takes = first }) y.stops;
    quiet = y.quiet;
  }

  -- the value was read
  gathers : {place' : ℕ} (value : List ℕ) → length value ≡ n → Takes b d value n → N.IsBetween d → place' ≡ place + length front + n
      → N.GathersCell kind from column a d place place' (front ++ value)
  gathers value whole then_takes between there =
      let takes = N.takes_both a b d front value first (grind arith) in
      let all = N.length-append front value in
      record {
        whole = omega arith;
        takes = takes;
        between = between;
        place_is = omega arith;
        refused = λ fault more bad. value_refused_there x value fault (omega arith) (grind (arith, N.drop-append_seam)) takes (omega arith) between;
      }

  -- the value was read into the area that has its length, or it is cut
  pub value_taken : {U : Type 0} {stopped : N.Option Stop} {place' middle : ℕ} (before after : N.Space) (result : N.Result U Stop) → before.bytes ≡ front
      → middle ≡ place + length front → stopped ≡ None → place' ≡ (if N.is_ok result then middle + n else middle)
      → N.MatchResult result (λ _. N.TakesInto b d before after n) (λ stop. stopped ≡ None → N.EndsInto b d before after middle n stop)
      → N.MatchResult result (λ _. N.GathersCell kind from column a d place place' after.bytes) (λ stop. StallsCell from column a d place stop)
  value_taken = grind (arith, N.common_steps, gathers, stalls_after, cell_cut)

-- from the shape of a scalar kind on
pub scalar_start : (charset : N.Charset) (kind : Kind) {o : N.Option ℕ} → N.is_scalar kind ≡ true → N.fixed_length kind ≡ o
    → N.cell_start kind (N.option_map_or N.FixedShape o N.CountedShape) ≡ N.start_of charset kind
scalar_start _ _ scalar is = grind arith

-- ---- a cell that lies whole, and is refused

-- the cell at the front of these bytes, all of which were handed out
pub refused_stalls : {column place : ℕ} {fault : N.ValueFault} (a b : N.PayloadView) (charset : N.Charset) (kind : Kind) (bytes : List ℕ)
    → N.IsLeftFor charset kind bytes (N.Refused fault) → Takes a b bytes 0 → N.IsBetween b
    → StallsCell (N.start_of charset kind) column a b place (N.refusal kind column place fault)
refused_stalls {column = column} {place = place} {fault = fault} a b charset kind bytes (scalar, within, some, bad) takes between =
    go (N.fixed_length kind) bytes fault refl within some bad takes
  where
    go : (o : N.Option ℕ) (all : List ℕ) (f : N.ValueFault) → N.fixed_length kind ≡ o → N.scalar_size kind all ≤ length all → 0 < N.value_length kind all
        → N.read_of kind (N.value_bytes kind all) ≡ N.Err f → Takes a b all 0
        → StallsCell (N.start_of charset kind) column a b place (N.refusal kind column place f)
    go (Some n) all f is within some bad takes = rw (← scalar_start charset kind scalar is)
        (value_refused_there (fixed_ahead column kind is) all f (grind arith) (grind arith) takes (omega arith) between)
    go None [] f is within some bad takes = absurd (grind arith)
    go None (n ∷ rest) N.value_faults.Length is within some bad takes = rw (← scalar_start charset kind scalar is)
        (length_refused rest (grind arith) (grind (arith, N.length-take-le)) takes (omega arith) between)
    go None (n ∷ rest) N.value_faults.Value is within some bad takes = rw (← scalar_start charset kind scalar is) (value_refused_there
        (counted_ahead column kind is scalar (grind arith) (grind (arith, N.length-take-le))) rest N.value_faults.Value (grind arith) (grind arith)
        takes (omega arith) between)
