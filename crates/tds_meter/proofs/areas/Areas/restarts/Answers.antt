pub returns : Rattle.tds_meter.proofs.areas.Areas.restarts.Goals.returns
returns = search
