use Rattle.tds_replay.proofs.Words as N
use Rattle.tds_replay.proofs.Sayings.{fails_after, fails_before, gathers_none, gathers_then}
use N.{◌++◌}

pub returns : Rattle.tds_replay.proofs.lines.add_report.Goals.returns
returns g c =
    let end = c.add_error.new.notes in
    let has = c.add_error.new.gathered.items in
    let report = c.args.report.now in
    let error = N.error_line report.first_error c.args.message.now in
    let status = N.status_line report.return_status ++ error in
    gathers_then end has (N.values_line report.return_values ++ status) c.in_ok-add_counts.ensures c.add_error.result
    (gathers_then end has status c.in_ok-add_values.ensures c.add_error.result
    (gathers_then end has error c.in_ok-add_status.ensures c.add_error.result c.add_error.ensures))

pub returns-in_err-add_values : Rattle.tds_replay.proofs.lines.add_report.Goals.returns-in_err-add_values
returns-in_err-add_values g c = gathers_none _ _ _ c.from_residual-in_err-add_values.result c.from_residual-in_err-add_values.ensures.1
    (fails_before c.in_ok-add_counts.ensures _ _ c.in_err-add_values.ensures)

pub returns-in_err-add_status : Rattle.tds_replay.proofs.lines.add_report.Goals.returns-in_err-add_status
returns-in_err-add_status g c = gathers_none _ _ _ c.from_residual-in_err-add_status.result c.from_residual-in_err-add_status.ensures.1
    (fails_after c.in_ok-add_counts.ensures _ (fails_before c.in_ok-add_values.ensures _ _ c.in_err-add_status.ensures))
