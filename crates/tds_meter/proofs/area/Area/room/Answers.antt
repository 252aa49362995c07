pub returns : Rattle.tds_meter.proofs.area.Area.room.Goals.returns
returns c = search
