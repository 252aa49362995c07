use Rattle.tds_cells.proofs as N
use N.{◌<◌, ◌↔◌, ◌≡◌}
use N.laws.read_as_spelt.Goals as goal

row_as_spelt : (token : N.RowToken) (charset : N.Charset) (columns : N.List N.Column) (cells : N.List N.Cell) (bytes : N.List N.ℕ)
    → (token ≡ N.NbcRow → 0 < N.length columns) → N.AreBytes bytes
    → N.SpellsRow token charset columns cells bytes ↔ N.Spelt (N.row charset) (N.row_start token charset columns) bytes (N.WholeRow cells)
row_as_spelt N.PlainRow _ _ _ _ _ are = (λ h. N.RowLaws.row_is_read _ _ _ _ h, λ k. N.RowMeaning.row_is_spelt _ _ are k)
row_as_spelt N.NbcRow _ _ _ _ some are =
    (λ h. N.RowLaws.nbc_row_is_read _ _ _ _ (N.RowLaws.some_bitmap _ (some N.refl)) h, λ k. N.RowMeaning.nbc_row_is_spelt _ _ are k)

pub returns : goal.returns
returns c = record {
  cell = λ charset kind column value bytes are.
      (λ h. N.CellLaws.cell_is_read _ _ _ _ _ (N.RowLaws.shape-HasBytes _ _) h, λ k. N.CellMeaning.cell_is_spelt _ _ are k);
  row = row_as_spelt;
}
