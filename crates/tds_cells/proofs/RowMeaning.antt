-- What the bytes that lead to a part of a row spell.
use Rattle.tds_cells.proofs as N
use N.{AreBytes, Bitmap, Bool, Cell, Column, List, RowPart, [], arith, false, length, marked, refl, row, true, ℕ, ◌++◌, ◌∙◌, ◌∷◌, ◌≡◌}

module _ (charset : N.Charset) where
  marked_both : (ks ls : List (Column × Bool)) (cs ds : List Cell) (b e : List ℕ) → N.SpellsMarked charset ks cs b → N.SpellsMarked charset ls ds e
      → N.SpellsMarked charset (ks ++ ls) (cs ++ ds) (b ++ e)
  marked_both [] ls [] ds b e h s = rw h s
  marked_both ((j, true) ∷ ks) ls (c ∷ cs) ds b e h s = (h.0, marked_both ks ls cs ds b e h.1 s)
  marked_both ((j, false) ∷ ks) ls (c ∷ cs) ds b e h s =
      (h.0, h.1 ++ e, rw (h.2, N.append_assoc), h.3, marked_both ks ls cs ds h.1 e h.4 s)
  marked_both _ _ _ _ b e h s = absurd h

  -- the bytes spell the whole cells of the marked columns, and the part of the next one
  pub record CellsMean (all : List (Column × Bool)) (cells : List Cell) (part : N.CellPart) (ks : List (Column × Bool)) (bytes : List ℕ) : Type 0 where
    pub before : List (Column × Bool)
    pub column : Column
    pub front : List ℕ
    pub rest : List ℕ
    pub split : all ≡ (before ++ (column, false) ∷ []) ++ ks
    pub spelt : bytes ≡ front ++ rest
    pub whole : N.SpellsMarked charset before cells front
    pub begun : N.CellMeaning.CellMeans column.kind (N.shape charset column.kind) part rest

  -- the part of a row in these marked columns
  abbrev pub MarkedMean : List (Column × Bool) → RowPart → List ℕ → Type 0
  MarkedMean all (Bitmap columns) bytes = ⊥
  MarkedMean all (N.InCell cells part ks) bytes = CellsMean all cells part ks bytes
  MarkedMean all (N.WholeRow cells) bytes = N.SpellsMarked charset all cells bytes

  next_means : (all before ks : List (Column × Bool)) (cells : List Cell) (b : List ℕ) → all ≡ before ++ ks → N.SpellsMarked charset before cells b
      → MarkedMean all (N.next_cell charset cells ks) b
  next_means _ _ [] cells b split h = search N.rules
  next_means all before ((k, true) ∷ ks) cells b split h =
      next_means all (before ++ (k, true) ∷ []) ks _ b (split ∙ N.sym (N.append_assoc before _ ks))
      (rw N.append-nil at (marked_both before ((k, true) ∷ []) cells (N.Null ∷ []) b [] h (refl, refl)))
  next_means _ before ((k, false) ∷ ks) _ b split h =
      record {
        before = before;
        column = k;
        front = b;
        rest = [];
        split = grind (arith, N.append_assoc);
        spelt = search N.rules;
        whole = h;
        begun = grind arith;
      }

  with_means : {all : List (Column × Bool)} {cells : List Cell} {part : N.CellPart} {ks : List (Column × Bool)} {b : List ℕ}
      → CellsMean all cells part ks b → MarkedMean all (N.with_cell charset cells ks part) b
  with_means = grind (arith, next_means, marked_both, N.append-nil)

  marked_step : (all : List (Column × Bool)) {p : RowPart} (b e : List ℕ) → AreBytes e → MarkedMean all p b → N.IsNext (row charset) p e
      → MarkedMean all (N.row_add charset p e) (b ++ e)
  marked_step = grind (arith, N.append_assoc, N.CellMeaning.cell_step, with_means)

  -- what the bytes after the token byte of a row spell: of a ROW, or of an NBCROW
  abbrev pub RowMeans : List Column → Bool → RowPart → List ℕ → Type 0
  RowMeans columns nbc (Bitmap cs) bytes = (cs ≡ columns) × (nbc ≡ true) × (bytes ≡ [])
  RowMeans columns false part bytes = MarkedMean (marked columns (λ k. false) 0) part bytes
  RowMeans columns true part bytes = (bitmap : List ℕ) × (rest : List ℕ) × (bytes ≡ bitmap ++ rest) × (length bitmap ≡ N.bitmap_length (length columns))
      × MarkedMean (marked columns (N.bit bitmap) 0) part rest

  module _ (columns : List Column) where
    from_marked : (part : RowPart) (bitmap rest bytes : List ℕ) → bytes ≡ bitmap ++ rest → length bitmap ≡ N.bitmap_length (length columns)
        → MarkedMean (marked columns (N.bit bitmap) 0) part rest → RowMeans columns true part bytes
    from_marked = grind arith

    from_plain : (part : RowPart) (bytes : List ℕ) → MarkedMean (marked columns (λ k. false) 0) part bytes → RowMeans columns false part bytes
    from_plain = grind arith

    pub row_step : (nbc : Bool) (p : RowPart) (b e : List ℕ) → AreBytes e → RowMeans columns nbc p b → N.IsNext (row charset) p e
        → RowMeans columns nbc (N.row_add charset p e) (b ++ e)
    row_step false (Bitmap cs) b e _ h n = cc
    row_step true (Bitmap cs) b e _ h n =
        from_marked _ e [] _ (rw (h.2, N.append-nil)) (grind arith)
        (rw h.0 (next_means (marked columns _ 0) [] (marked columns _ 0) [] [] refl refl))
    row_step false (N.InCell cells part ks) b e bytes h n = from_plain _ _ (marked_step _ b e bytes h n)
    row_step true (N.InCell cells part ks) b e bytes h n =
        from_marked _ h.0 _ _ (rw (h.2, N.append_assoc)) h.3 (marked_step _ h.1 e bytes h.4 n)
    row_step _ (N.WholeRow cells) b e _ h n = grind arith

    pub row_start_means : RowMeans columns false (N.row_start N.PlainRow charset columns) []
    row_start_means = from_plain (N.row_start N.PlainRow charset columns) [] (next_means _ [] (marked columns (λ k. false) 0) [] []
        refl refl)

    -- what is read from such a part on has its meaning
    row_means : (nbc : Bool) {from : RowPart} → RowMeans columns nbc from [] → (bytes : List ℕ) (to : RowPart) → AreBytes bytes
        → N.Spelt (row charset) from bytes to → RowMeans columns nbc to bytes
    row_means nbc {from} begun bytes to are h =
        N.Spelt-induct _ (λ p b. AreBytes b → RowMeans columns nbc p b)
        (grind (arith, row_step, N.AreBytes-back, N.AreBytes-front)) from (λ _. begun) bytes to h are

    pub row_is_spelt : {cells : List Cell} {bytes : List ℕ} → AreBytes bytes
        → N.Spelt (row charset) (N.row_start N.PlainRow charset columns) bytes (N.WholeRow cells)
        → N.SpellsRow N.PlainRow charset columns cells bytes
    row_is_spelt are h = row_means _ row_start_means _ _ are h

    pub nbc_row_is_spelt : {cells : List Cell} {bytes : List ℕ} → AreBytes bytes → N.Spelt (row charset) (Bitmap columns) bytes (N.WholeRow cells)
        → N.SpellsRow N.NbcRow charset columns cells bytes
    nbc_row_is_spelt are h = row_means true (refl, refl, refl) _ _ are h
