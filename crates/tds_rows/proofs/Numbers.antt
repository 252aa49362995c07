-- The numbers of a long value, its length or total and those of its chunks, as elements of its cell: how each is judged, and where it leads.
use Rattle.tds_rows.proofs as N
use N.{◌-◌, ◌%◌, ◌||◌, ◌≡◌, ◌≢◌, ◌⊎◌, ℕ, ◌+◌, ◌<◌, List, [], refl, arith, Option, Some, None, ◌==◌, Fault, Stop, ◌^◌, CellPart, ChunkLength, Total}
use N.{if◌then◌else◌}
use N.Words.{cell}
use Rattle.tds_packet.specs.declared.payload.Payload.{Payload as Input}

-- within a short value: this many bytes follow its data so far
abbrev pub short_left : N.Conversion → ℕ → List ℕ → CellPart
short_left c left content = if left == 0 then N.WholeCell (N.DataCell c content) else N.ShortData c (left - 1) content

-- within a chunk: this many bytes follow the data so far
abbrev pub chunk_left : N.Conversion → Option ℕ → ℕ → List ℕ → CellPart
chunk_left c total left content = if left == 0 then ChunkLength c total content else N.ChunkData c total (left - 1) content

-- the fault of the length of a short value, by the bytes of a N.unit
abbrev pub short_fault : ℕ → ℕ → ℕ → Option Fault
short_fault column size n = N.unless ((n == 0xFFFF) || (n % size == 0)) (N.OddText column)

-- and what it says: nothing of NULL
abbrev pub short_length : ℕ → Option ℕ
short_length n = if n == 0xFFFF then None else Some n

-- the fault of a total
abbrev pub total_fault : ℕ → ℕ → ℕ → Option Fault
total_fault column size n = N.unless (N.nat_le (2 ^ 64 - 2) n || (n % size == 0)) (N.OddText column)

-- and what it says: nothing of NULL, else how many bytes there are, if that is known
abbrev pub total_of : ℕ → Option (Option ℕ)
total_of n = if n == (2 ^ 64 - 1) then None else Some (N.known_total n)

-- An element of a cell was read, which leads from one state to another.
pub record Next (column : ℕ) (s : CellPart) (a b : N.PayloadView) (place place' : ℕ) (t : CellPart) : Type 0 where
  pub element : List ℕ
  pub next : N.IsNext (cell column) s element
  pub to : N.cell_add s element ≡ t
  pub takes : N.Takes a b element (N.length element)
  pub between : N.IsBetween b
  pub place_is : place' ≡ place + N.length element

-- it was refused, or is cut
number_stops : {column size place : ℕ} {s : CellPart} {fault : ℕ → Option Fault} {a b : N.PayloadView} {stop : Stop} → 0 < size → N.cell_size s ≡ size
    → N.cell_end s ≡ Some N.MessageEnded → ((e : List ℕ) (n : ℕ) (f : Fault) → N.little e ≡ n → fault n ≡ Some f → N.cell_fault column s e ≡ Some f)
    → N.RefusesNumber size fault a b place stop ⊎ N.CutsBytes size a b place stop → N.StopsReading (cell column) s a b place s stop
number_stops {column = column} {place = place} {s = s} {a = a} {b = b} {stop = stop} some is _ first (N.inl x) =
    let r = x.reads in
    N.subst (λ t. N.StopsReading (cell column) s a b place s t) (grind arith)
    (N.refused_at_once _ s a b _ _ _ (omega arith) (omega arith) (first _ x.n _ r.number x.first) r.takes r.between)
number_stops _ is end _ (N.inr x) = grind arith

-- ---- the length of a short value, a total, and the length of a chunk

module _ {column : ℕ} (c : N.Conversion) {size : ℕ} (unit_is : size ≡ N.unit c) {a b : N.PayloadView} {place : ℕ} where
  pub short_stops : {stop : Stop} → N.RefusesNumber 2 (short_fault column size) a b place stop ⊎ N.CutsBytes 2 a b place stop
      → N.StopsReading (cell column) (N.ShortLength c) a b place (N.ShortLength c) stop
  short_stops x = number_stops (omega arith) refl refl (λ e n f is first. grind arith) x

  -- as a call read it
  module _ {place' : ℕ} {answer : Option ℕ} (x : (n : ℕ) × N.ReadsNumber 2 a b place place' n × (short_fault column size n ≡ None)
      × (answer ≡ short_length n)) where
    pub short_none : answer ≡ None → Next column (N.ShortLength c) a b place place' (N.WholeCell N.Null)
    short_none is = grind arith

    pub short_start : {k : ℕ} → answer ≡ Some k → Next column (N.ShortLength c) a b place place' (short_left c k [])
    short_start is = grind arith

  pub total_stops : {stop : Stop} → N.RefusesNumber 8 (total_fault column size) a b place stop ⊎ N.CutsBytes 8 a b place stop
      → N.StopsReading (cell column) (Total c) a b place (Total c) stop
  total_stops x = number_stops (omega arith) refl refl (λ e n f is first. grind arith) x

  module _ {place' : ℕ} {answer : Option (Option ℕ)} (x : (n : ℕ) × N.ReadsNumber 8 a b place place' n × (total_fault column size n ≡ None)
      × (answer ≡ total_of n)) where
    pub total_none : answer ≡ None → Next column (Total c) a b place place' (N.WholeCell N.Null)
    total_none is = grind arith

    pub total_start : {t : Option ℕ} → answer ≡ Some t → Next column (Total c) a b place place' (ChunkLength c t [])
    total_start is = grind arith

  module _ {total : Option ℕ} {content : List ℕ} {sum : ℕ} (counted : N.length content ≡ sum) where
    pub chunk_stops : {stop : Stop} → N.RefusesNumber 4 (λ n. N.chunk_length_fault column size total sum n) a b place stop ⊎ N.CutsBytes 4 a b place stop
        → N.StopsReading (cell column) (ChunkLength c total content) a b place (ChunkLength c total content) stop
    chunk_stops x = number_stops (omega arith) refl refl (λ e n f is first. grind arith) x

    module _ {n place' : ℕ} (x : N.ReadsNumber 4 a b place place' n) (free : N.chunk_length_fault column size total sum n ≡ None) where
      -- the terminator was read, after content that is whole
      pub chunk_end : n ≡ 0 → N.is_fit c content ≡ N.true → Next column (ChunkLength c total content) a b place place' (N.WholeCell (N.DataCell c content))
      chunk_end none fit = grind arith

      -- after content that isn't, it is refused
      pub chunk_unfit : n ≡ 0 → N.is_fit c content ≡ N.false
          → N.StopsReading (cell column) (ChunkLength c total content) a b place (ChunkLength c total content)
          (record { fault = N.BadText column; place = N.Payload place })
      chunk_unfit none unfit = search (N.rules, N.refused_at_once)

      -- the length of a chunk was read
      pub chunk_start : n ≢ 0 → Next column (ChunkLength c total content) a b place place' (chunk_left c total n content)
      chunk_start some = grind arith

-- ---- where a call stops with the fault of a device, that device failed in it

pub same_failures : {a b c d : ℕ} → a ≡ c → b ≡ d → ◌≡◌ {A = N.Failures} (record { reads = a; writes = b }) (record { reads = c; writes = d })
same_failures e f = cc

-- A stop that names a device's fault comes after one more failure of that device.
abbrev pub StopBlames : N.Failures → N.Failures → Stop → Type 0
StopBlames old new stop = (stop.fault ≡ N.ReadFailed → new.reads ≡ N.one_more old.reads) × (stop.fault ≡ N.WriteFailed → new.writes ≡ N.one_more old.writes)

pub stops_after : {a b c : N.Failures} (stop : Stop) → b ≡ a → StopBlames b c stop → StopBlames a c stop
stops_after _ e h = rw (← e) h

-- what a stop of the payload says of its reader
abbrev pub ReadBlames : ℕ → ℕ → Stop → Type 0
ReadBlames old new stop = (stop.fault ≡ N.WriteFailed → ⊥) × (stop.fault ≡ N.ReadFailed → new ≡ N.one_more old)

pub read_stops : (old new : N.Failures) (stop : Stop) → ReadBlames old.reads new.reads stop → StopBlames old new stop
read_stops _ _ _ h = grind arith

-- a fault that names no device
abbrev NoDevice : Option Fault → Type 0
NoDevice None = N.⊤
NoDevice (Some fault) = (fault ≡ N.WriteFailed → ⊥) × (fault ≡ N.ReadFailed → ⊥)

pub total_blames : (column size n : ℕ) → NoDevice (total_fault column size n)
total_blames _ _ n = grind arith

-- a length that was refused or cut
pub length_blames : {R : Type 0} {size : ℕ} {b : N.PayloadView} {stop : Stop} (remaining : N.Tells R) {fault : ℕ → Option Fault} (old : Input R)
    → old.stopped ≡ None → ((n : ℕ) → NoDevice (fault n))
    → N.RefusesNumber size fault (N.seen remaining old) b old.place stop ⊎ N.CutsBytes size (N.seen remaining old) b old.place stop
    → ReadBlames old.from.now.failures b.failures stop
length_blames _ _ _ none (N.inl x) = grind arith
length_blames {b = b} remaining old going _ (N.inr x) =
    let h = N.ends_blame remaining old b x.part x.own going x.ends in
    (grind arith)
