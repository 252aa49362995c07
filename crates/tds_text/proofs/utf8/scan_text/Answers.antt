use Rattle.tds_text.proofs as N

pub returns-in-Some-clause-scan : N.utf8.scan_text.Goals.returns-in-Some-clause-scan
returns-in-Some-clause-scan c =
    let s = N.Utf8Laws.stops_at c.args.bytes.now _ _ _ (grind N.arith) (grind N.arith) c.good_of.ensures in
    grind N.arith
