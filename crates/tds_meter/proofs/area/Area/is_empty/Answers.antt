use Rattle.tds_meter.proofs as N

pub returns : N.area.Area.is_empty.Goals.returns
returns = search N.rules
