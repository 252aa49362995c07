use Rattle.tds_meter.proofs as N

pub returns-in-Ok : N.area.Area.new.Goals.returns-in-Ok
returns-in-Ok = search N.rules
