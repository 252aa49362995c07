use Rattle.tds_columns.proofs as N
use N.metadata.take_column.Goals as goal
use N.{arith, rules}

pub returns-clause-gives : goal.returns-clause-gives
returns-clause-gives g c = λ _ columns number.
    N.WholeLaws.takes_column c.args.area.now.room c.args.at.count columns c.buffered-held.result.now c.in-Some.size c.args.area.now c.append.new.self
    c.in-Some.ensures (grind arith)
    (grind arith) c.in-Ok.ensures.ok
    (N.ap (λ p. p.place) c.consume.ensures.rest)
