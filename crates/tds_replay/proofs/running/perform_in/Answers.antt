use Rattle.tds_replay.proofs.running.perform_in.Goals as goal
use Rattle.std.proofs.Common.{rules}
use Rattle.tds_replay.proofs.AcceptedResponses.{delivers_all}

pub returns-in-Export-clause-performs : goal.returns-in-Export-clause-performs
returns-in-Export-clause-performs g c = search rules

pub returns-in-Check-clause-performs : goal.returns-in-Check-clause-performs
returns-in-Check-clause-performs g c = search rules

pub returns-in-ExportAll-clause-delivers : goal.returns-in-ExportAll-clause-delivers
returns-in-ExportAll-clause-delivers g c =
    let delivers = delivers_all _ c.in-ExportAll.charset c.in-ExportAll.limits _ _ c.perform_all.result c.perform_all.ensures.performs in
    (c.perform_all.result, c.number-in-ExportAll.ensures, rw c.in-ExportAll.is delivers)
