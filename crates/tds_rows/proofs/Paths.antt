-- What bytes make by a grammar, and how a call that reads them and puts what they make goes from place to place.
use Rattle.tds_rows.proofs as N
use N.{◌≡◌, ◌⊎◌, ℕ, ◌+◌, ◌-◌, List, [], ◌++◌, Fault, SinkView, PayloadView, Tells, Bool, Stop}
use Rattle.tds_packet.specs.declared.payload.Payload.{Payload}
use Rattle.tds_cells.proofs.GrammarTexts.{writes_both, writes_none}

-- where a reading stands: what the payload is seen to give, how many of its bytes were read, and what the sink holds
pub record At : Type 0 where
  pub seen : PayloadView
  pub place : ℕ
  pub held : SinkView

abbrev pub at_of : {R W : Type 0} → Tells R → Tells W → Payload R → N.Sink W → At
at_of remaining contents payload sink = record { seen = N.seen remaining payload; place = payload.place; held = N.held contents sink }

abbrev pub here : {R W : Type 0} → Tells R → Tells W → N.Rows R W → At
here remaining contents rows = at_of remaining contents rows.payload.now rows.sink.now

-- how a call stopped: what the payload is seen to give then, what the sink holds, whether a write failed, and the stop
pub record Halt : Type 0 where
  pub seen : PayloadView
  pub held : SinkView
  pub failed : Bool
  pub stop : Stop

abbrev pub halt : {R W : Type 0} → Tells R → Tells W → N.Rows R W → Stop → Halt
halt remaining contents rows stop = record {
  seen = N.seen remaining rows.payload.now;
  held = N.held contents rows.sink.now;
  failed = rows.sink.now.failed;
  stop = stop;
}

-- a relation between two places
abbrev pub over : {T : Type 1} → (PayloadView → PayloadView → ℕ → ℕ → SinkView → SinkView → T) → At → At → T
over f p q = f p.seen q.seen p.place q.place p.held q.held

-- a relation between a place and how a call stopped after it
abbrev pub until : {T : Type 1} → (PayloadView → PayloadView → ℕ → SinkView → SinkView → Bool → Stop → T) → At → Halt → T
until f p e = f p.seen e.seen p.place p.held e.held e.failed e.stop

-- These bytes and more were handed out without a packet, and a write of their text failed.
pub record Breaks (p : At) (e : Halt) (bytes rest text : List ℕ) : Type 0 where
  pub takes : N.Takes p.seen e.seen (bytes ++ rest) 0
  pub between : N.IsBetween e.seen
  pub few : N.HasRoom p.held
  pub delivered : N.Counts p.held
  pub breaks : N.WritesPrefix p.held e.held text e.stop
  pub failed : e.failed ≡ N.true

-- From one place to another bytes were read, and what they make was put.
pub record Path {S : Type 0} (g : N.Grammar S Fault) (text : S → List ℕ) (s : S) (p q : At) (t : S) : Type 0 where
  pub bytes : List ℕ
  pub made : List ℕ
  pub writes : N.Writes g text s bytes made t
  pub takes : N.Takes p.seen q.seen bytes (N.length bytes)
  pub puts : N.Puts p.held q.held made
  pub place_is : q.place ≡ p.place + N.length bytes

module _ {S : Type 0} {g : N.Grammar S Fault} {text : S → List ℕ} where
  abbrev pub streams_of : {s t : S} {p q : At} → Path g text s p q t → N.Streams g text s p.seen q.seen p.held q.held t
  streams_of x = record { bytes = x.bytes; spelt = x.writes.spelt; takes = x.takes; puts = (x.made, x.writes.text_is, x.puts) }

  abbrev pub path_of : {s t : S} {p q : At} → (x : N.Streams g text s p.seen q.seen p.held q.held t) → q.place ≡ p.place + N.length x.bytes
      → Path g text s p q t
  path_of x at = record {
    bytes = x.bytes;
    made = x.puts.0;
    writes = record { spelt = x.spelt; text_is = x.puts.1 };
    takes = x.takes;
    puts = x.puts.2;
    place_is = at;
  }

  abbrev pub path_none : {s : S} {p : At} → N.Counts p.held → Path g text s p p s
  path_none d = record { bytes = []; made = []; writes = writes_none; takes = N.Takes-none _ 0; puts = N.Puts-none _ d; place_is = omega N.arith }

  pub path_both : {s t u : S} {p q r : At} → Path g text s p q t → Path g text t q r u → Path g text s p r u
  path_both {p = p} {q = q} {r = r} x y = record {
    bytes = x.bytes ++ y.bytes;
    made = x.made ++ y.made;
    writes = writes_both x.writes y.writes;
    takes = search (N.rules, N.takes_both);
    puts = N.Puts-trans _ _ _ _ _ x.puts y.puts;
    place_is = grind (N.arith, N.length-append);
  }

  -- a call that stops after one that doesn't
  pub path_stops : {s t : S} {p q : At} {e : Halt} → Path g text s p q t → until (N.StopsStreaming g text t) q e → until (N.StopsStreaming g text s) p e
  path_stops {p = p} x y = N.streaming_after _ _ _ _ _ _ _ _ _ _ p.place _ _ (streams_of x) (rw x.place_is at y)

-- what is known of all bytes and what they make
pub path_map : {S T : Type 0} {g : N.Grammar S Fault} {k : N.Grammar T Fault} {text : S → List ℕ} {whole : T → List ℕ} {s t : S} {u v : T} {p q : At}
    → ((a m : List ℕ) → N.Writes g text s a m t → N.Writes k whole u a m v) → Path g text s p q t → Path k whole u p q v
path_map f x = search N.rules

-- ---- how a cell, its end and a row stop

-- A cell wasn't read whole or is refused, or a write of its text failed.
abbrev pub StopsField : N.CellPart → ℕ → Bool → PayloadView → PayloadView → ℕ → SinkView → SinkView → Bool → Stop → Type 0
StopsField from column last = N.StopsStreaming (N.Words.cell column) (N.cell_so_far column last) from

-- The content is whole, and a write of its end failed; or it isn't, and nothing was put.
abbrev pub StopsEnding : N.Conversion → Bool → Bool → List ℕ → ℕ → ℕ → SinkView → SinkView → Bool → Stop → Type 0
StopsEnding c quoted last content column place before after failed stop =
    (N.IsFit c content × N.WritesPrefix before after (N.ending c quoted last content) stop × (failed ≡ N.true))
    ⊎ ((N.IsFit c content → ⊥) × (after ≡ before) × (stop ≡ record { fault = N.BadText column; place = N.Payload place }) × (failed ≡ N.false))

-- Reading a row stopped: at an element that is refused or cut, with the text of the state that it reached; or in writing.
abbrev pub RowStops : N.Charset → N.RowPart → PayloadView → PayloadView → ℕ → SinkView → SinkView → Bool → Stop → Type 0
RowStops charset = N.StopsStreaming (N.Words.row charset) N.row_so_far
