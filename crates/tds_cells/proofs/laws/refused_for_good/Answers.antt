use Rattle.tds_cells.proofs as N

pub returns : N.laws.refused_for_good.Goals.returns
returns c = record {
  cell = λ charset kind column front rest more at fault value h r k.
      N.refused_for_good _ _ _ _ _ fault _ _ h r (N.CellLaws.cell_is_read _ _ _ _ _ (N.RowLaws.shape-HasBytes _ _) k);
  row = grind (N.arith, N.RowLaws.refused_row);
}
