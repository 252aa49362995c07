use Rattle.std.proofs.Common.{rules}

pub returns-in-Wire-clause-unit : Rattle.tds_replay.proofs.lines.place_parts.Goals.returns-in-Wire-clause-unit
returns-in-Wire-clause-unit c = search rules
