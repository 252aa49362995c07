use Rattle.tds_export.proofs as N
use N.header.put_names.Given as goal

abbrev pub invariant-names : goal.invariant-names
invariant-names g l = N.NameTexts.NamesPut g.W.Write.contents (N.columns_of l.fn.columns.bytes.now) (N.columns_left l.column-iterator) l.index l.initial.sink
    l.sink
