-- The text of the cells of a row, element after element.
use Rattle.tds_cells.proofs as N
use N.{Bool, Cell, CellPart, Column, List, None, Some, [], arith, cell_so_far, false, field, joined, length, map, opened, refl, true, ℕ, ◌++◌, ◌+◌, ◌<◌, ◌∷◌}
use N.{◌≡◌, ◌≢◌}
use N.CellGrowth.{Grows, OptionGrows, cell_grows, grows_all, grows_same, grows_trans}

-- ---- fields in their line

pub after_some_column : (column : ℕ) {text : List ℕ} → column ≢ 0 → 44 ∷ text ≡ N.after_comma column text
after_some_column = grind arith

pub after_append : (column : ℕ) (a b : List ℕ) → N.after_comma column (a ++ b) ≡ N.after_comma column a ++ b
after_append = grind arith

pub joined_snoc : (fields : List (List ℕ)) (f : List ℕ) → joined fields ++ N.after_comma (length fields) f ≡ joined (fields ++ f ∷ [])
joined_snoc [] f = refl
joined_snoc (g ∷ []) f = rw N.append_assoc
joined_snoc (g ∷ h ∷ gs) f = grind (arith, N.append_assoc, (joined_snoc (h ∷ gs) f))

-- ---- a cell whose text comes with its last element alone

-- before its first element a cell has no text
pub start_quiet : (kind : N.Kind) (s : N.Shape) → N.field_so_far (N.cell_start kind s) ≡ None
start_quiet = grind arith

-- ---- a cell in its row

pub fields_more : (cells : List Cell) (v : List ℕ) → joined (map field cells) ++ N.after_comma (length cells) v ≡ joined (map field cells ++ v ∷ [])
fields_more = grind (arith, N.length-map, joined_snoc)

pub cell_more : (cells : List Cell) (v : Cell)
    → joined (map field cells) ++ N.after_comma (length cells) (field v) ≡ joined (map field (cells ++ v ∷ []))
cell_more = grind (arith, fields_more, N.map-append)

-- a cell that isn't whole yet has some bytes to come
pub some_bytes : (column : ℕ) (from : CellPart) (v : Cell) (es : List (List ℕ)) → (from ≡ N.WholeCell v → ⊥) → N.Leads (N.cell column) from es (N.WholeCell v)
    → 0 < length (N.concat es)
some_bytes _ _ v [] before h = grind arith
some_bytes _ _ v (e ∷ es) _ h = grind (arith, N.length-append)

-- ---- columns that are NULL by their bit: their text stands after that of the element that is read before them

-- whether no column follows
abbrev pub ends : List (Column × Bool) → Bool
ends [] = true
ends (k ∷ ks) = false

-- so it is where no column is left
pub ends_marked : (columns : List Column) (nulls : ℕ → Bool) (n : ℕ) → N.is_last_column columns ≡ ends (N.marked columns nulls n)
ends_marked = grind arith

-- no column is NULL by its bit
abbrev pub coming : List Column → ℕ → List (Column × Bool)
coming left n = N.marked left (λ k. false) n

-- the text in its line of the first columns, as far as they are NULL by their bit; this many columns lie before them
abbrev pub nulls_ahead : ℕ → List (Column × Bool) → List ℕ
nulls_ahead n [] = []
nulls_ahead n ((k, true) ∷ ks) = N.in_line n (ends ks) N.null_field ++ nulls_ahead (n + 1) ks
nulls_ahead n ((k, false) ∷ ks) = []

pub none_ahead : (left : List Column) (n : ℕ) → nulls_ahead n (coming left n) ≡ []
none_ahead [] n = refl
none_ahead (c ∷ cs) n = refl

-- one more whole cell, and what is known of the text after it
one_more : (cells : List Cell) (v : Cell) (ks : List (Column × Bool)) {text : List ℕ}
    → (joined (map field (cells ++ v ∷ [])) ++ N.end_after (ends ks)) ++ nulls_ahead (length (cells ++ v ∷ [])) ks ≡ text
    → (joined (map field cells) ++ N.in_line (length cells) (ends ks) (field v)) ++ nulls_ahead (length cells + 1) ks ≡ text
one_more cells v _ is = rw (← N.append_assoc, cell_more, ← N.length-append cells (v ∷ [])) is

-- a row's text so far is that of its whole cells, the end of the line where no column follows, and that of the NULLs to come
pub nulls_text : (charset : N.Charset) (cells : List Cell) (ks : List (Column × Bool))
    → (joined (map field cells) ++ N.end_after (ends ks)) ++ nulls_ahead (length cells) ks ≡ N.row_so_far (N.next_cell charset cells ks)
nulls_text _ _ [] = N.append-nil _
nulls_text charset cells ((k, true) ∷ ks) = rw (N.append-nil, ← N.append_assoc) (one_more cells N.Null ks (nulls_text charset _ ks))
nulls_text _ _ ((k, false) ∷ ks) = search N.rules

-- ---- a cell's text in its line

module _ (column : ℕ) (last : Bool) where
  opened_grows : (a b : N.Option (List ℕ)) → OptionGrows a b → Grows (opened column a) (opened column b)
  opened_grows None b h = grows_all _
  opened_grows (Some a) None h = absurd h
  opened_grows (Some a) (Some b) h = grind arith

  -- while it is open, the text so far of a N.cell is that of its field
  pub opened_text : (p : CellPart) → 0 < N.cell_size p → opened column (N.field_so_far p) ≡ cell_so_far column last p
  opened_text = grind arith

  opened_to : (p : CellPart) → Grows (opened column (N.field_so_far p)) (cell_so_far column last p)
  opened_to (N.ShortData c n d) = grows_same _
  opened_to (N.ChunkLength c t d) = grows_same _
  opened_to (N.ChunkData c t n d) = grows_same _
  opened_to (N.WholeCell v) = grind arith
  opened_to p = grows_all []

  -- each element of a cell adds to its text in its line
  pub line_grows : (p : CellPart) (e : List ℕ) → N.IsNext (N.cell column) p e → Grows (cell_so_far column last p) (cell_so_far column last (N.cell_add p e))
  line_grows p e n = rw (opened_text p (N.next_some _ p e n)) at (grows_trans _ _ _ (opened_grows _ _ (cell_grows _ p e n)) (opened_to _))

-- ---- a cell in its row, with the NULLs after it

module _ (charset : N.Charset) (cells : List Cell) (ks : List (Column × Bool)) where
  -- a cell's states in its row
  abbrev up : CellPart → N.RowPart
  up = N.with_cell charset cells ks

  -- the text of the NULLs after it, once it is whole
  abbrev pub rest_of : CellPart → List ℕ
  rest_of (N.WholeCell v) = nulls_ahead (length cells + 1) ks
  rest_of part = []

  -- the text so far of the row is that of the whole cells, that of the next one, and that of the NULLs after it
  pub part_text : (at : CellPart) → (joined (map field cells) ++ cell_so_far (length cells) (ends ks) at) ++ rest_of at ≡ N.row_so_far (up at)
  part_text = grind (arith, N.append-nil, nulls_text, one_more, fields_more)

  -- there are none after it while it is open
  pub begun_text : (at : CellPart) → 0 < N.cell_size at → joined (map field cells) ++ cell_so_far (length cells) (ends ks) at ≡ N.row_so_far (up at)
  begun_text at some = grind (arith, N.append-nil, (part_text at))

module _ (charset : N.Charset) (cells : List Cell) (ks : List (Column × Bool)) where
  -- a cell in its row, with no NULL by its bit after it
  pub row_cell : (c : Column) → nulls_ahead (length cells + 1) ks ≡ [] → {bytes made : List ℕ} {v : Cell}
      → N.Writes (N.cell (length cells)) (cell_so_far (length cells) (ends ks)) (N.cell_start c.kind (N.shape charset c.kind)) bytes made (N.WholeCell v)
      → N.Writes (N.row charset) N.row_so_far (N.next_cell charset cells ((c, false) ∷ ks)) bytes made (N.next_cell charset (cells ++ v ∷ []) ks)
  row_cell c none x = rw N.RowLaws.begins_open at (N.GrammarTexts.writes_inside {whole = N.row_so_far} (joined (map field cells))
      (N.RowLaws.cell_in_row charset cells ks)
      (grind (arith, N.append-nil, part_text)) x)
