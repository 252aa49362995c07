use Rattle.tds_columns.proofs as N

pub invariant_of-result : N.view.Columns.view.Goals.invariant_of-result
invariant_of-result c =
    let shown = N.ViewLaws.description_shows _ _ _ c.requires.2 in
    record { whole = shown.1; some = grind N.arith; most = grind N.arith }
