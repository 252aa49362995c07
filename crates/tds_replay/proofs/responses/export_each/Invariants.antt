use Rattle.tds_replay.proofs.Words as N
use N.{◌≡◌, ◌-◌}
use Rattle.tds_replay.proofs.responses.export_each.Given as goal

-- reports so far, and the status that they end with
abbrev pub invariant-responses : goal.invariant-responses
invariant-responses g l = N.ReportsSo (N.telling g.R.Read.remaining g.W.Write.contents g.N.Write.contents) l.charset
    (N.standing l.initial.areas l.initial.from l.initial.to l.initial.notes) (N.standing l.areas l.from l.to l.notes) l.responses l.status

abbrev pub decreases-responses : goal.decreases-responses
decreases-responses g l = 18446744073709551615 - l.responses
