use Rattle.std.proofs.Common.{rules}

pub returns-in-Refused : Rattle.tds_replay.proofs.usage.say_usage.Goals.returns-in-Refused
returns-in-Refused g c = search rules
