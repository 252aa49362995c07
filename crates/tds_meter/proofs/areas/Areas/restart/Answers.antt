use Rattle.tds_meter.proofs.areas.Areas.restart.Goals as goal

pub returns-clause-emptied : goal.returns-clause-emptied
returns-clause-emptied c = search

pub returns-clause-restarts : goal.returns-clause-restarts
returns-clause-restarts c = search
