-- What a row's spelling is read as.
use Rattle.tds_cells.proofs as N
use N.{Bool, Cell, Column, List, NbcRow, Spelt, [], arith, length, row, ℕ, ◌++◌, ◌<◌, ◌∷◌, ◌≡◌}

-- the bitmap of some columns has some bytes
pub some_bitmap : (columns : List Column) → 0 < length columns → 0 < N.bitmap_length (length columns)
some_bitmap = omega arith

module _ (charset : N.Charset) where
  -- each fixed kind has bytes
  pub shape-HasBytes : (kind : N.Kind) → N.CellLaws.HasBytes (N.shape charset kind)
  shape-HasBytes = grind arith

  pub cell_in_row : (cells : List Cell) (ks : List (Column × Bool)) → N.Inside (N.cell (length cells)) (row charset) (N.with_cell charset cells ks)
  cell_in_row = grind arith

  pub begins_open : (cells : List Cell) (ks : List (Column × Bool)) (kind : N.Kind) (sh : N.Shape)
      → N.with_cell charset cells ks (N.cell_start kind sh) ≡ N.InCell cells (N.cell_start kind sh) ks
  begins_open = grind arith

  -- what spells the cells to come is read as them
  cells_are_read : (before : List Cell) (ks : List (Column × Bool)) (cs : List Cell) (bytes : List ℕ) → N.SpellsMarked charset ks cs bytes
      → Spelt (row charset) (N.next_cell charset before ks) bytes (N.WholeRow (before ++ cs))
  cells_are_read _ [] [] bytes h = search N.rules
  cells_are_read before ((k, N.true) ∷ ks) (c ∷ cs) bytes h = grind (arith, N.append_assoc, (cells_are_read (before ++ N.Null ∷ []) ks cs bytes h.1))
  cells_are_read before ((k, N.false) ∷ ks) (c ∷ cs) _ h =
      let one = N.CellLaws.cell_is_read _ k.kind _ c h.0 (shape-HasBytes k.kind) h.3 in
      let first = N.Inside-Spelt _ _ _ (cell_in_row before ks) _ h.0 _ one in
      let more = cells_are_read (before ++ c ∷ []) ks cs h.1 h.4 in
      grind (arith, N.append_assoc, begins_open, N.Spelt-append)
  cells_are_read _ _ _ _ h = absurd h

  pub row_is_read : (columns : List Column) (cells : List Cell) (bytes : List ℕ) → N.SpellsRow N.PlainRow charset columns cells bytes
      → Spelt (row charset) (N.row_start N.PlainRow charset columns) bytes (N.WholeRow cells)
  row_is_read _ cells bytes h = cells_are_read [] _ cells bytes h

  pub nbc_row_is_read : (columns : List Column) (cells : List Cell) (bytes : List ℕ) → 0 < N.bitmap_length (length columns)
      → N.SpellsRow NbcRow charset columns cells bytes → Spelt (row charset) (N.Bitmap columns) bytes (N.WholeRow cells)
  nbc_row_is_read _ _ _ some h =
      let w = h.3 in
      rw h.2 (N.Spelt-append _ _ _ _ _ _ (N.Spelt-step _ _ _ _ (rw w some) w N.refl N.refl) (cells_are_read [] _ _ _ h.4))

  -- an NBCROW of no columns stays before its bitmap
  stays : (es : List (List ℕ)) (at : N.RowPart) → N.Leads (row charset) (N.Bitmap []) es at → at ≡ N.Bitmap []
  stays [] at h = N.sym h
  stays (e ∷ es) at h = grind arith

  -- No row begins with an element that is refused.
  pub refused_row : (token : N.RowToken) (columns : List Column) (front rest more : List ℕ) (at : N.RowPart) (fault : N.Fault) (cells : List Cell) →
      Spelt (row charset) (N.row_start token charset columns) front at → N.IsRefused (row charset) at rest fault
      → N.SpellsRow token charset columns cells ((front ++ N.take (N.row_size at) rest) ++ more) → ⊥
  refused_row N.PlainRow columns front rest more at fault cells h r k =
      N.refused_for_good _ _ front at rest fault more _ h r (row_is_read columns cells _ k)
  refused_row NbcRow [] front rest more at fault cells h r k = grind (arith, stays)
  refused_row NbcRow (c ∷ cs) front rest more at fault cells h r k =
      N.refused_for_good _ _ front at rest fault more _ h r
      (nbc_row_is_read _ cells _ (omega arith) k)

  -- No bytes spell two rows of the same columns.
  pub one_row : (token : N.RowToken) (columns : List Column) (a b : List Cell) (bytes : List ℕ) → N.SpellsRow token charset columns a bytes
      → N.SpellsRow token charset columns b bytes → a ≡ b
  one_row N.PlainRow columns a b _ h k = let e = N.one_state _ _ _ _ _ (row_is_read columns a _ h) (row_is_read columns b _ k) in cc
  one_row NbcRow [] a b bytes h k = grind arith
  one_row NbcRow (c ∷ cs) a b bytes h k =
      let some = some_bitmap (c ∷ cs) (omega arith) in
      let e = N.one_state _ _ _ _ _ (nbc_row_is_read (c ∷ cs) a bytes some h) (nbc_row_is_read (c ∷ cs) b bytes some k) in cc
