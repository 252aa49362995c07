-- NBCROWs that are whole in the packet, one after another.
use Rattle.tds_cells.proofs as N
use N.{List, [], arith, bit, drop, length, take, ℕ, ◌++◌, ◌+◌, ◌-◌, ◌<◌, ◌∙◌, ◌∷◌, ◌≡◌, ◌≤◌}
use N.RunSteps.{made_more, unused, used_more}

module _ (used size : ℕ) (bytes : List ℕ) where
  -- the bitmap and the cells of the row after those that were used
  abbrev bitmap : List ℕ
  bitmap = take size (unused used bytes)

  abbrev cells : List ℕ
  cells = unused size (unused used bytes)

  module _ (charset : N.Charset) (columns : List N.Column) (n u made m : ℕ) (to text left : List ℕ) (within : made ≤ length to) (fits : m ≤ length text)
      (whole : length bitmap ≡ N.bitmap_length (length columns)) (before : N.WritesNbcRows charset columns n (take used bytes) (take made to))
      (row : N.WritesMarked charset columns (bit bitmap) 0 (length columns) (take u cells) (take m text)) where
    abbrev all_text : List ℕ
    all_text = take (made + m) (take made to ++ (text ++ left))

    one : N.WritesNbcRow charset columns (bitmap ++ take u cells) (take m text)
    one = grind arith

    -- one more before the token byte of another, in the bytes that are left and after what was made
    pub nbc_row_more : 0 < length (unused u cells) → N.get_or (unused u cells) 0 0 ≡ N.token_byte N.NbcRow
        → N.WritesNbcRows charset columns (n + 1) (take (used + (size + u) + 1) bytes) all_text
    nbc_row_more more next =
        let row_bytes : take (size + (u + 1)) (unused used bytes) ≡ (bitmap ++ take u cells) ++ N.token_byte N.NbcRow ∷ [] =
        grind (arith, used_more, N.take_more, N.append_assoc) in
        let place : used + (size + u) + 1 ≡ used + (size + (u + 1)) = omega arith in
        let more : n + 1 ≡ N.suc n = omega arith in
        rw more (
          take used bytes,
          bitmap ++ take u cells,
          take made to,
          take m text,
          rw (place, used_more, row_bytes),
          made_more made m to text left within fits,
          before,
          one,
        )

    -- the last, which no other follows
    pub nbc_row_last : N.WritesWholeRows charset columns n N.true (take (used + (size + u)) bytes) all_text
    nbc_row_last = (
      take used bytes,
      bitmap ++ take u cells,
      take made to,
      take m text,
      rw (used_more, used_more),
      made_more made m to text left within fits,
      before,
      one,
    )

  -- the row after them isn't written so
  pub nbc_rows_end : (row_format : N.RowFormat) (start at : N.Cursor) (made : ℕ) (to text : List ℕ) (u m : ℕ) → size ≡ N.bitmap_length row_format.count
      → start.column ≡ 0 → ((columns : List N.Column) → N.Knows row_format columns → N.IsCursor row_format columns start) → m ≤ length text
      → N.CellsWritten row_format (bit bitmap) start at (take u cells) (take m text)
      → N.EndsFar row_format (bit bitmap) at (drop u cells) (length (unused made to) - m)
      → (at.column ≡ row_format.count → ⊥) → N.EndsNbcRows row_format (N.bitmap_length row_format.count) N.false (drop used bytes) (length to - made)
  nbc_rows_end row_format start at made to text u m size_is first begins fits wrote far end =
      let all = N.all_after bytes used in
      let rest = N.all_after (drop used bytes) size in
      let room = N.ap length (N.all_after to made) ∙ N.length-drop made to in
      let size = N.sym (N.length-take-le m text fits) in
      N.inr
      record {
        from = start;
        to = at;
        used = u;
        text = take m text;
        first = first;
        begins = begins;
        writes = rw (all, rest, size_is) at wrote;
        far = rw size at (rw (all, rest, room, size_is) at far);
        early = end;
      }
