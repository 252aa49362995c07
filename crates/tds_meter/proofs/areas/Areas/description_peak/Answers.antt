pub returns : Rattle.tds_meter.proofs.areas.Areas.description_peak.Goals.returns
returns c = search
