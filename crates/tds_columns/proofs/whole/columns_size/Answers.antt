use Rattle.tds_columns.proofs as N

pub columns-preserved : N.whole.columns_size.Goals.columns-preserved
columns-preserved = grind (N.arith, N.WholeLaws.columns_begin)
