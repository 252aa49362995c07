use Rattle.tds_meter.proofs as N

pub returns-then-n-free-clause-full : N.area.Area.extend.Goals.returns-then-n-free-clause-full
returns-then-n-free-clause-full = search N.rules
