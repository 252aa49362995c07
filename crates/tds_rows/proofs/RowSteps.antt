-- Cells that are read, and whose text is put.
use Rattle.tds_rows.proofs as N
use N.{◌≡◌, ℕ, ◌-◌, ◌<◌, Bool, arith, Kind, SinkView}
use N.Paths.{At, StopsField, over}
use Rattle.tds_cells.proofs.RowTexts.{some_bytes}
use Rattle.std.proofs.Common.{replicate}
use Rattle.std.proofs.lemmas.List.{get_or-replicate, length-replicate}
use Rattle.tds_cells.specs.Formats.{Each}
use Rattle.tds_cells.specs.declared.layout.CellFormat.{CellFormat}

-- ---- formats before any is learnt

-- a format that stands so many times
pub each_all : (P : CellFormat → Type 0) (n : ℕ) (f : CellFormat) → P f → Each P (replicate n f)
each_all P n f is k d here = grind (arith, get_or-replicate, length-replicate)

-- ---- cells that are read

-- A cell of a kind was read, and its text put.
abbrev pub PutsCell : N.Charset → Kind → ℕ → Bool → N.PayloadView → N.PayloadView → ℕ → ℕ → SinkView → SinkView → Type 0
PutsCell charset kind = N.PutsField (N.start_of charset kind)

-- A cell of a kind stopped so.
abbrev pub StopsCell : N.Charset → Kind → ℕ → Bool → N.PayloadView → N.PayloadView → ℕ → SinkView → SinkView → Bool → N.Stop → Type 0
StopsCell charset kind = StopsField (N.start_of charset kind)

-- so it was, from one place to another
abbrev pub PutsAt : N.Charset → Kind → ℕ → Bool → At → At → Type 0
PutsAt charset kind column last p q = over (PutsCell charset kind column last) p q

-- ---- a cell whose text comes with its last element alone

module _ (kind : Kind) (s : N.Shape) (column : ℕ) (last : Bool) where
  pub none_put : (at : N.CellPart) (h : SinkView) → N.field_so_far at ≡ N.None → N.Counts h
      → N.PutsText (N.cell_so_far column last) (N.cell_start kind s) at h h
  none_put at h quiet d = grind (arith, N.Puts-none)

  -- it stopped before it had any text
  pub at_once_stalls : {a b : N.PayloadView} {place : ℕ} {h : SinkView} {stop : N.Stop} → N.Counts h
      → N.StallsCell (N.cell_start kind s) column a b place stop → StopsField (N.cell_start kind s) column last a b place h h N.false stop
  at_once_stalls d x = grind (arith, none_put)

-- a cell that was read has some bytes
pub cell_some : {column : ℕ} {last : Bool} {p q : At} (charset : N.Charset) (kind : Kind) → PutsAt charset kind column last p q → p.place < q.place
cell_some _ _ y =
    let spelt = y.streams.spelt in
    let some = some_bytes _ _ y.value _ (grind arith) spelt.leads in
    omega (arith, N.ap N.length spelt.joined)
