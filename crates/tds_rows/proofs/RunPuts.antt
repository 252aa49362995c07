-- Runs of cells between a payload and a sink.
use Rattle.tds_rows.proofs as N
use N.{◌≡◌, ℕ, ◌+◌, ◌-◌, ◌≤◌, Bool, List, ◌++◌, length, arith, Stop, held, Kind, start_of, Takes, seen, Ok, Err, take}
use N.RowSteps.{PutsCell, StopsCell}
use N.Paths.{At, Breaks, Halt, over, until}
use Rattle.tds_packet.specs.declared.payload.Payload.{Payload}
use Rattle.tds_cells.proofs.RowTexts.{line_grows}
use Rattle.tds_cells.proofs.RunSteps.{cell_writes, whole_of}

-- ---- a cell that lies whole

-- its bytes were passed over and its text put, so it was read
pub whole_puts : (charset : N.Charset) (kind : Kind) (column : ℕ) (last : Bool) (p q : At) (bytes text : List ℕ)
    → N.WritesWhole (start_of charset kind) column last bytes text
    → Takes p.seen q.seen bytes (length bytes) → q.place ≡ p.place + length bytes → N.Puts p.held q.held text
    → over (PutsCell charset kind column last) p q
whole_puts _ _ _ _ p q _ _ x takes at puts =
    record { value = x.value; streams = grind arith; place_is = at }

-- its bytes and more were passed over, and a write of its text failed
pub whole_breaks : {p : At} {e : Halt} {bytes rest text : List ℕ} {column : ℕ} {last : Bool} (charset : N.Charset) (kind : Kind)
    → N.WritesWhole (start_of charset kind) column last bytes text → Breaks p e bytes rest text → until (StopsCell charset kind column last) p e
whole_breaks {p} {e} {bytes = bytes} {rest = rest} {column = column} {last = last} _ _ x y =
    let writes = cell_writes _ _ x in
    let broken = N.breaks_somewhere _ _ (line_grows column last) _ p.seen e.seen p.held e.held e.stop y.between _ bytes rest _ writes.spelt
    (grind arith) y.few y.delivered writes.text_is y.breaks in
    record { at = broken.0; cause = grind arith }

-- its text comes by one call
module _ {R W U : Type 0} {column : ℕ} {last : Bool} {bytes text : List ℕ} {contents : N.Tells W} {before after : N.Sink W} (remaining : N.Tells R)
    (old new : Payload R) (charset : N.Charset) (kind : Kind) (going : N.IsWriting before) (between : N.IsBetween (seen remaining new))
    (at : new.place ≡ old.place + length bytes) where
  pub put_whole : {r : N.Result U Stop} → N.WritesWhole (start_of charset kind) column last bytes text
      → Takes (seen remaining old) (seen remaining new) bytes 0 → N.PutsPiece contents before after text r
      → N.FieldPut remaining contents (start_of charset kind) column last old new before after r
  put_whole {r = Ok u} x takes puts = whole_puts _ _ _ _ _ _ _ _ x (grind arith) at puts.gives
  put_whole {r = Err stop} x takes puts = whole_breaks {rest = N.[]} charset kind x (record {
    takes = rw N.append-nil takes;
    between = between;
    few = grind arith;
    delivered = going.ready.2;
    breaks = grind arith;
    failed = puts.failed;
  })

  -- with the last element, however many packets its bytes were in
  pub put_cell : {r : N.Result U Stop} → N.WritesCell (start_of charset kind) column last bytes text
      → Takes (seen remaining old) (seen remaining new) bytes (length bytes) → N.PutsPiece contents before after text r
      → N.FieldPut remaining contents (start_of charset kind) column last old new before after r
  put_cell {r = Ok u} x takes puts = whole_puts _ _ _ _ _ _ _ _ (whole_of x) takes at puts.gives
  put_cell {r = Err stop} x takes puts = record {
    at = x.at;
    cause = N.inr (
      record {
        bytes = x.front;
        element = x.element;
        ahead = N.[];
        spelt = x.spelt;
        next = x.next;
        takes = rw (N.append-nil, x.joined) takes;
        between = between;
        middle = held contents before;
        few = search N.rules;
        puts = search (N.rules, N.RowSteps.none_put);
        more = text;
        text_is = grind arith;
        breaks = search N.rules;
      },
      puts.failed,
    );
  }

-- the place after bytes of the packet that were handed out
pub consumed : {R : Type 0} (old : Payload R) {new : Payload R} (n : ℕ) → new ≡ N.further old n → n ≤ length (N.buffered old)
    → new.place ≡ old.place + length (take n (N.buffered old))
consumed old n is within = grind (arith, N.length-take-le)

-- ---- what is written into the room that a sink lends

module _ (h j : N.SinkView) (room written : List ℕ) (n : ℕ) (whole : length written ≡ length room) (at : n ≡ length h.waiting) where
  -- what stands in the area once the room that was lent is written
  abbrev lent : List ℕ
  lent = N.overwritten (length h.waiting) written (h.waiting ++ room)

  abbrev lent_held : N.SinkView
  lent_held = record h { waiting = take n lent }

  -- the text of a cell that was written there was put
  pub kept_text : (made : ℕ) → N.Puts lent_held j (take made (N.drop n lent)) → N.Puts h j (take made written)
  kept_text _ x = grind (arith, N.spare_before, N.spare_written)

  -- and the block has so much room left
  pub room_left : (made : ℕ) → N.Puts lent_held j (take made (N.drop n lent)) → made ≤ length written → length room + length h.waiting ≡ 4095
      → length room - made ≡ 4095 - length j.waiting
  room_left made x fits block =
      let puts = kept_text made x in
      let text = take made written in
      omega (arith, N.ap length puts.2.1, N.length-append h.waiting text, N.length-append puts.0 j.waiting, N.length-take-le made written fits)

-- ---- rows

-- the cells of a run were passed over, and its text was put
pub run_put : {W U : Type 0} {contents : N.Tells W} {row_format : N.RowFormat} {nulls : N.Nulls} {from to : N.Cursor} {run : N.RowsSpan}
    {before after : N.Sink W} {bytes text : List ℕ} {place' : ℕ} {r : N.Result U Stop} (a b : N.PayloadView) (place : ℕ)
    → N.Ran row_format nulls from to bytes text run → Takes a b (take run.used bytes) 0 → N.IsBetween b
    → place' ≡ place + length (take run.used bytes) → N.IsWriting before → N.PutsPiece contents before after (take run.made text) r
    → N.MatchResult r (λ _. N.PutsRun (N.RunWritten row_format nulls from to run.rows) a b place place' (held contents before) (held contents after))
    (λ stop. N.WritesPrefixOfRun row_format nulls from a b (held contents before) (held contents after) after.failed stop)
run_put {r = Ok u} _ _ _ ran takes _ at _ puts =
    record { bytes = _; text = _; wrote = ran.writes; takes = takes; puts = puts.gives; place_is = at }
run_put {to = to} {run = run} {r = Err stop} _ _ _ ran takes between _ going puts = record {
  to = to;
  rows = run.rows;
  bytes = _;
  text = _;
  wrote = ran.writes;
  takes = takes;
  between = between;
  breaks = grind arith;
  failed_is = puts.failed;
}
