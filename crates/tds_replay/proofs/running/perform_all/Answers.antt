use Rattle.std.proofs.Common.{inl}

pub returns-clause-performs : Rattle.tds_replay.proofs.running.perform_all.Goals.returns-clause-performs
returns-clause-performs g c = inl (record { areas = c.in-Ok.areas; left = c.export_all.new.areas; made = c.in-Ok.ensures.made; runs = c.export_all.ensures })
