pub returns : Rattle.tds_meter.proofs.areas.Areas.description_held.Goals.returns
returns c = search
