use Rattle.tds_meter.proofs.areas.Areas.error_text.Goals as goal

pub returns-clause-value : goal.returns-clause-value
returns-clause-value c = search

pub returns-clause-fits : goal.returns-clause-fits
returns-clause-fits c = search
