use Rattle.std.proofs.Common.{inl}

pub returns-clause-performs : Rattle.tds_replay.proofs.running.perform_export.Goals.returns-clause-performs
returns-clause-performs g c = inl (record {
  areas = c.in-Ok.areas;
  left = c.export_one-answer.new.areas;
  made = c.in-Ok.ensures.made;
  answer = c.export_one-answer.result;
  returns = c.export_one-answer.ensures;
  status_is = c.status_of.ensures;
})
