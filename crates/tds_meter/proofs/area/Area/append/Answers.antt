use Rattle.tds_meter.proofs as N

pub returns-then-piece-free-clause-full : N.area.Area.append.Goals.returns-then-piece-free-clause-full
returns-then-piece-free-clause-full = search N.rules
