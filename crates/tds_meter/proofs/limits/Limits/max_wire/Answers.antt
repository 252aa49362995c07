pub returns : Rattle.tds_meter.proofs.limits.Limits.max_wire.Goals.returns
returns = search
