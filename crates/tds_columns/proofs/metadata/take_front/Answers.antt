use Rattle.tds_columns.proofs as N

pub returns-clause-gives : N.metadata.take_front.Goals.returns-clause-gives
returns-clause-gives g c = N.WholeLaws.takes_whole c.args.area.now.room c.buffered-held.result.now c.args.front.count c.args.front.size c.args.area.now
    c.append.new.self (grind N.arith) (grind N.arith) c.requires.empty c.in-Ok.ensures.ok
    (grind N.arith)
