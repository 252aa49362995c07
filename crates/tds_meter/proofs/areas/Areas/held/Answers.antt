use Rattle.tds_meter.proofs as N

pub returns : N.areas.Areas.held.Goals.returns
returns = search N.rules
