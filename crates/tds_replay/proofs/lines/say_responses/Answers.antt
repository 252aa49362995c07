use Rattle.tds_replay.specs.Lines.{responses_line}

pub returns : Rattle.tds_replay.proofs.lines.say_responses.Goals.returns
unfolding responses_line
returns g c = c.say.ensures
