pub returns : Rattle.tds_meter.proofs.areas.Areas.waiting.Goals.returns
returns c = search
