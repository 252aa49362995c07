use Rattle.tds_replay.specs.Lines.{recut_line}

pub returns-in-Ok : Rattle.tds_replay.proofs.lines.say_recut_answer.Goals.returns-in-Ok
unfolding recut_line
returns-in-Ok g c = rw c.in-Ok.is c.say.ensures
