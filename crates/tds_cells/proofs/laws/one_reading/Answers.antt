use Rattle.tds_cells.proofs as N

pub returns : N.laws.one_reading.Goals.returns
returns c = record {
  cell = λ charset kind a b bytes h k. let e =
      N.one_state (N.cell 0) _ _ _ _ (N.CellLaws.cell_is_read _ _ _ _ _ (N.RowLaws.shape-HasBytes _ _) h)
      (N.CellLaws.cell_is_read _ _ _ _ _ (N.RowLaws.shape-HasBytes _ _) k) in cc;
  row = grind (N.arith, N.RowLaws.one_row);
}
