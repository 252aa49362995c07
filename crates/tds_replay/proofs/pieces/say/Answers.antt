use Rattle.tds_replay.proofs.Sayings.{says_gathered}

pub returns : Rattle.tds_replay.proofs.pieces.say.Goals.returns
returns g c = says_gathered c.put.new.notes c.new-gathered.ensures c.as_slice.ensures.value c.in_ok-gather_all.ensures c.put.result c.put.ensures
