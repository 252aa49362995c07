-- What the rows that are read add to their text.
use Rattle.tds_cells.proofs as N
use N.{List, [], length, ℕ, ◌++◌, ◌<◌, ◌≡◌}
pub use N.CellGrowth.{Grows, grows_all, grows_same, grows_trans, grows_under, joined_more}

module _ (charset : N.Charset) where
  -- each element of a row adds to its text
  pub row_grows : (p : N.RowPart) (e : List ℕ) → N.IsNext (N.row charset) p e → Grows (N.row_so_far p) (N.row_so_far (N.row_add charset p e))
  row_grows (N.Bitmap columns) e n = grows_all _
  row_grows (N.WholeRow cells) e n = grows_same _
  row_grows (N.InCell cells part ks) e n =
      let next : N.IsNext (N.cell (length cells)) part e = record { some = n.some; whole = n.whole; free = n.free } in
      let some = N.next_some _ part e next in
      let opened : N.with_cell charset cells ks part ≡ N.InCell cells part ks = grind N.arith in
      let grown : Grows (N.joined (N.map N.field cells) ++ N.cell_so_far (length cells) (N.RowTexts.ends ks) part)
      (N.row_so_far (N.row_add charset (N.InCell cells part ks) e)) =
      grows_trans _ _ _ (grows_under _ _ _ (N.RowTexts.line_grows (length cells) (N.RowTexts.ends ks) part e next))
      (_, N.RowTexts.part_text charset cells ks (N.cell_add part e)) in
      rw (N.RowTexts.begun_text charset cells ks part some, opened) at grown

  -- and each element of rows: a token byte adds nothing
  pub rows_grow : (token : N.RowToken) (all : List N.Column) → 0 < length all → (before : List (List N.Cell)) (part : N.RowPart) (e : List ℕ)
      → N.IsNext (N.rows token charset all) (record { before = before; at = part }) e
      → Grows (N.rows_so_far (record { before = before; at = part })) (N.rows_so_far (N.rows_add token charset all before part e))
  rows_grow token all some before (N.WholeRow cells) e n = ([], (N.RunSteps.row_token token charset all before cells some).text_is)
  rows_grow token all some before part e n = grows_under _ _ _ (row_grows part e (record { some = n.some; whole = n.whole; free = n.free }))
