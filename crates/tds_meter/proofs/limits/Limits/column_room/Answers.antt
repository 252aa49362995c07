pub returns : Rattle.tds_meter.proofs.limits.Limits.column_room.Goals.returns
returns = search
