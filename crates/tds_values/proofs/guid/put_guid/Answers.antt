use Rattle.tds_values.proofs as N

pub returns-clause-written : N.guid.put_guid.Goals.returns-clause-written
returns-clause-written c =
    let digits = rw (N.take_all 16 c.args.bytes.now (omega (N.arith, c.requires.length))) at c.digits_of.ensures.digits in
    grind (N.arith, N.LaneLemmas.hyphenated, N.swap_fields)
