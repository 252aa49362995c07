use Rattle.tds_export.proofs as N
use N.header.write_header.Given as goal

abbrev pub invariant-names : goal.invariant-names
invariant-names l = N.NameTexts.NamesWritten l.fn.begun (N.columns_of l.fn.columns.bytes.now) (N.columns_left l.column-iterator) l.index l.made l.initial.to
    l.to
