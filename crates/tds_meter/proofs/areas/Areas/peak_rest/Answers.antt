use Rattle.tds_meter.proofs as N

pub returns : N.areas.Areas.peak_rest.Goals.returns
returns = search N.rules
