-- The value of a RETURNVALUE, as it is passed over.
use Rattle.tds_rows.proofs as N
use N.{◌≢◌, ◌≡◌, ℕ, ◌+◌, ◌-◌, ◌%◌, ◌<◌, ◌≤◌, true, List, [], ◌++◌, length, refl, arith, Option, Stop, PayloadView, Conversion, Cell, CellPart, ChunkLength}
use N.{return_column, AnyData, PassesData, StepsOver}
use N.Words.{cell}
use N.LongValues.{content_spelt, chunk_holds, short_holds}
use Rattle.tds_cells.proofs.ValueCells.{null_cell, value_cell}
use Rattle.tds_cells.proofs.RunSteps.{whole_of}
use Rattle.tds_cells.proofs.CellMeaning.{is_ok_value}

-- ---- elements

module _ {s t : CellPart} {a b d : PayloadView} {place middle : ℕ} (x : StepsOver s t a b place middle) where
  steps_both : {u : CellPart} {place' : ℕ} → StepsOver t u b d middle place' → StepsOver s u a d place place'
  steps_both y = record { reads = grind (arith, N.reads_both); between = y.between; place_is = grind (arith, N.length-append) }

  pub stops_after_steps : {stop : Stop} → N.StopsPassing t b d middle stop → N.StopsPassing s a d place stop
  stops_after_steps y = grind (arith, N.stops_after)

  -- a value after what was read of it
  pub cell_after : {place' : ℕ} → N.PassesCell t b d middle place' → N.PassesCell s a d place place'
  cell_after y = search (N.rules, steps_both)

-- ---- data, byte by byte

any_begins : {c : Conversion} {size : ℕ} → AnyData c size → (bytes : List ℕ) → N.BeginsData c bytes
any_begins any bytes = (N.begun_by_test _ bytes).0 (any.begun bytes)

module _ {c : Conversion} {state : ℕ → List ℕ → CellPart} {Good : List ℕ → Type 0} {tail : N.Bool → List ℕ → List ℕ}
    (holds : N.LongValues.HoldsContent return_column c state Good tail)
    (begins : (bytes : List ℕ) → N.BeginsData c bytes) where
  -- all the data was handed out
  data_steps : {m : ℕ} {a b : PayloadView} {place place' : ℕ} (d : List ℕ) (x : PassesData m a b place place') → Good (d ++ x.bytes)
      → StepsOver (state m d) (state 0 (d ++ x.bytes)) a b place place'
  data_steps d x good = record {
    reads = record { bytes = x.bytes; spelt = content_spelt true holds d x.bytes _ 0 (omega arith) (begins _) (λ _ _. good); takes = grind arith };
    between = x.between;
    place_is = omega arith;
  }

  -- the payload stopped in it
  data_stops : {m : ℕ} {a b : PayloadView} {place : ℕ} {stop : Stop} (d : List ℕ) → N.CutsPassing m a b place stop → N.StopsPassing (state m d) a b place stop
  data_stops {m = m} d x =
      let at = state _ _ in
      record {
        at = at;
        stops = record {
          bytes = x.bytes;
          spelt = content_spelt true holds d x.bytes m _ (omega arith) (begins _) (λ none _. absurd (omega arith));
          cause = N.inr (record {
            part = [];
            cut = omega arith;
            own = x.own;
            ends = search N.rules;
            stop_is = N.began_is_cut _ _ x.own _ (holds.end (m - length x.bytes - 1) _) x.stop_is;
          });
        };
      }

-- what is written of a cell is its spelling
written_spelt : {from : CellPart} {last : N.Bool} {bytes text : List ℕ} → N.WritesCell from return_column last bytes text → (value : Cell)
    × N.Spelt (cell return_column) from bytes (N.WholeCell value)
written_spelt x = let whole = whole_of x in (whole.value, whole.spelt)

-- the bytes of a scalar cell whose value isn't refused are a whole cell
pub scalar_whole : (charset : N.Charset) (kind : N.Kind) (bytes : List ℕ) → N.is_scalar kind ≡ true → length bytes ≡ N.scalar_size kind bytes
    → (0 < N.value_length kind bytes → N.is_ok (N.read_of kind (N.value_bytes kind bytes)) ≡ true)
    → (value : Cell) × N.Spelt (cell return_column) (N.start_of charset kind) bytes (N.WholeCell value)
scalar_whole charset kind bytes scalar whole good = go _ refl
  where
    go : (n : ℕ) → N.value_length kind bytes ≡ n → (value : Cell) × N.Spelt (cell return_column) (N.start_of charset kind) bytes (N.WholeCell value)
    go N.zero e =
        let x = null_cell charset kind _ true bytes _ scalar _ refl e (omega arith) refl in
        rw (N.take_all (N.value_start kind + 0) bytes (omega arith)) at (written_spelt x)
    go _ e =
        let v = is_ok_value (good (omega arith)) in
        let x = value_cell charset kind _ true bytes _ scalar _ _ refl refl (λ z. omega arith) (omega arith) (v.0, v.1, refl) in
        rw (N.take_all (N.value_start kind + N.value_length kind bytes) bytes (omega arith)) at (written_spelt x)

pub passes_none : {n : ℕ} {a : PayloadView} {place : ℕ} → n ≡ 0 → N.IsBetween a → PassesData n a a place place
passes_none none between = grind arith

pub passes_more : {m n k : ℕ} {a b d : PayloadView} {place middle place' : ℕ} → k ≡ m + n → PassesData m a b place middle → PassesData n b d middle place'
    → PassesData k a d place place'
passes_more {m = m} {n = n} {a = a} {b = b} {d = d} sum x y = record {
  bytes = x.bytes ++ y.bytes;
  counted = grind (arith, N.length-append);
  takes = rw (sum, ← x.counted) (N.Takes-trans a b d _ _ m n (omega arith) x.takes y.takes);
  between = y.between;
  place_is = omega arith;
}

-- the payload stopped after what was passed over
pub cuts_more : {m n k : ℕ} {a b d : PayloadView} {place middle : ℕ} {stop : Stop} → m + n ≤ k → PassesData m a b place middle
    → N.CutsPassing n b d middle stop → N.CutsPassing k a d place stop
cuts_more {m = m} {a = a} {b = b} {d = d} sum x y = record {
  bytes = x.bytes ++ y.bytes;
  own = y.own;
  fewer = grind (arith, N.length-append);
  ends = N.Ends-after a b d _ _ m _ x.takes y.ends;
  stop_is = grind (arith, N.length-append);
}

-- a scalar cell whose value isn't refused was read
pub scalar_passes : {kind : N.Kind} {a b : PayloadView} {place place' : ℕ} {bytes : List ℕ} (charset : N.Charset) → N.is_scalar kind ≡ true
    → N.GathersCell kind (N.start_of charset kind) return_column a b place place' bytes
    → (0 < N.value_length kind bytes → N.is_ok (N.read_of kind (N.value_bytes kind bytes)) ≡ true)
    → N.PassesCell (N.start_of charset kind) a b place place'
scalar_passes {bytes = bytes} _ scalar x good =
    let v = scalar_whole _ _ _ scalar x.whole good in
    record { value = v.0; steps = record { reads = record { bytes = bytes; spelt = v.1; takes = x.takes }; between = x.between; place_is = x.place_is } }

-- the data of a short value after its length
module _ {c : Conversion} {size n : ℕ} {a b d : PayloadView} {place middle : ℕ} (any : AnyData c size)
    (x : StepsOver (N.ShortLength c) (N.Numbers.short_left c n []) a b place middle) where
  pub short_passes : {place' : ℕ} → n % size ≡ 0 → PassesData n b d middle place' → N.PassesCell (N.ShortLength c) a d place place'
  short_passes even y = cell_after x (record {
    value = N.DataCell c y.bytes;
    steps = data_steps (short_holds return_column c) (any_begins any) [] y (grind arith);
  })

  pub short_cuts : {stop : Stop} → N.CutsPassing n b d middle stop → N.StopsPassing (N.ShortLength c) a d place stop
  short_cuts y = stops_after_steps x (data_stops (short_holds return_column c) (any_begins any) [] y)

-- So many bytes of data were passed over, in whole chunks.
pub record WalksChunks (c : Conversion) (total : Option ℕ) (sum : ℕ) (old new : PayloadView) (place place' : ℕ) : Type 0 where
  pub content : List ℕ
  pub counted : length content ≡ sum
  pub steps : StepsOver (ChunkLength c total []) (ChunkLength c total content) old new place place'

pub chunks_none : {c : Conversion} {total : Option ℕ} {a : PayloadView} {place : ℕ} → N.IsBetween a → WalksChunks c total 0 a a place place
chunks_none between = record { content = []; counted = refl; steps = record { reads = grind arith; between = between; place_is = omega arith } }

module _ {c : Conversion} {total : Option ℕ} {sum : ℕ} {a b d : PayloadView} {place middle there : ℕ} (x : WalksChunks c total sum a b place middle) where
  pub chunks_end : StepsOver (ChunkLength c total x.content) (N.WholeCell (N.DataCell c x.content)) b d middle there
      → N.PassesCell (ChunkLength c total []) a d place there
  chunks_end y = record { value = N.DataCell c x.content; steps = steps_both x.steps y }

  module _ {size n : ℕ} {e : PayloadView} (any : AnyData c size) (y : StepsOver (ChunkLength c total x.content) (N.Numbers.chunk_left c total n x.content) b d
      middle
      there) where
    pub chunks_more : {place' : ℕ} → PassesData n d e there place' → WalksChunks c total (sum + n) a e place place'
    chunks_more z = record {
      content = x.content ++ z.bytes;
      counted = grind (arith, N.length-append);
      steps = steps_both (steps_both x.steps y) (data_steps (chunk_holds _ c total) (any_begins any) _ z tt);
    }

    -- the data of a chunk is cut
    pub chunks_cut : {stop : Stop} → N.CutsPassing n d e there stop → N.StopsPassing (ChunkLength c total []) a e place stop
    chunks_cut z = stops_after_steps (steps_both x.steps y) (data_stops (chunk_holds return_column c total) (any_begins any) x.content z)

-- ---- lengths and totals

-- an element was read that leads on
pub steps_of : {s t : CellPart} {a b : PayloadView} {place place' : ℕ} → N.Numbers.Next return_column s a b place place' t → StepsOver s t a b place place'
steps_of x = record { reads = N.reads_one _ _ _ _ _ _ x.next x.takes x.to; between = x.between; place_is = x.place_is }

module _ {c : Conversion} {size : ℕ} (any : AnyData c size) where
  -- a short value has whole units
  pub short_even : {a b : PayloadView} {place place' k : ℕ} {answer : Option ℕ}
      → ((n : ℕ) × N.ReadsNumber 2 a b place place' n × (N.Numbers.short_fault return_column size n ≡ N.None) × (answer ≡ N.Numbers.short_length n))
      → answer ≡ N.Some k
      → k % size ≡ 0
  short_even x is = grind arith

  module _ {total : Option ℕ} {content : List ℕ} {sum n k place place' : ℕ} {a b : PayloadView} (counted : length content ≡ sum)
      (x : N.ReadsNumber 4 a b place place' n) (free : N.chunk_length_fault return_column size total sum n ≡ N.None) (is : k ≡ n) where
    pub end_steps : k ≡ 0 → StepsOver (ChunkLength c total content) (N.WholeCell (N.DataCell c content)) a b place place'
    end_steps ends = grind (arith, steps_of)

    pub chunk_steps : k ≢ 0 → StepsOver (ChunkLength c total content) (N.Numbers.chunk_left c total k content) a b place place'
    chunk_steps some = search (N.rules, steps_of, N.Numbers.chunk_start)
