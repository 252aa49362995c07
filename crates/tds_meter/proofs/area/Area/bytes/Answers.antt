use Rattle.tds_meter.proofs as N

pub returns-clause-value : N.area.Area.bytes.Goals.returns-clause-value
returns-clause-value = search N.rules
