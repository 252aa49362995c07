pub returns : Rattle.tds_meter.proofs.limits.Limits.packet_size.Goals.returns
returns = search
