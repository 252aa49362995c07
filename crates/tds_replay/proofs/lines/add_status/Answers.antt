use Rattle.tds_replay.proofs.Words as N
use Rattle.tds_replay.proofs.lines.add_status.Goals as goal
use Rattle.tds_replay.specs.Lines.{status_line}
use Rattle.tds_replay.proofs.Sayings.{nothing_gathered}

pub returns-in_default : goal.returns-in_default
unfolding status_line
returns-in_default g c = nothing_gathered _ _ _ _ (N.ap status_line c.in_default.is)

pub returns : goal.returns
unfolding status_line
returns g c =
    let fits : N.SFits N.w32 c.in-Some.status = search N.rules in
    rw (c.in-Some.is, ← N.to_z-of_z N.w32 c.in-Some.status fits) c.gather_all.ensures
