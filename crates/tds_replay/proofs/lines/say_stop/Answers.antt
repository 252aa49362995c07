use Rattle.tds_replay.proofs.Sayings.{says_gathered}

pub returns : Rattle.tds_replay.proofs.lines.say_stop.Goals.returns
returns g c = says_gathered c.put.new.notes c.new-gathered.ensures c.as_slice.ensures.value c.in_ok-add_stop.ensures c.put.result c.put.ensures
