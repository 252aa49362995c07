use Rattle.tds_columns.specs.Gather.{BeginsColumns}

abbrev pub invariant-columns : Rattle.tds_columns.proofs.whole.columns_size.Given.invariant-columns
invariant-columns l = BeginsColumns l.bytes l.counter l.size
