use Rattle.tds_meter.proofs as N
use N.area.Area.free.Goals as goal

pub returns-clause-value : goal.returns-clause-value
returns-clause-value = search N.rules

pub returns-clause-fits : goal.returns-clause-fits
returns-clause-fits = search N.rules
