use Rattle.tds_replay.specs.Lines.{unreadable_line}

pub returns : Rattle.tds_replay.proofs.lines.say_unreadable.Goals.returns
unfolding unreadable_line
returns g c = rw (← c.as_bytes.ensures.value) c.say.ensures
