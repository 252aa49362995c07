use Rattle.tds_replay.specs.Lines.{counts_line}

pub returns : Rattle.tds_replay.proofs.lines.add_counts.Goals.returns
unfolding counts_line
returns g c = c.gather_all.ensures
