use Rattle.tds_arguments.proofs as N
use N.parsing.parse.Goals as goal
use N.{map}
use N.Found.{found, is_known}

pub returns-in_err-program-clause-answers : goal.returns-in_err-program-clause-answers
returns-in_err-program-clause-answers c = N.Found.without_memory (map _ _) c.from_residual.result c.from_residual.ensures.1

pub returns-in-Ok-clause-answers : goal.returns-in-Ok-clause-answers
returns-in-Ok-clause-answers c =
    let app = N.app_of c.in_ok-program.program in
    let job = c.found_job.ensures in
    found app (map N.string_bytes c.args.arguments.now) c.in_ok-program.ensures c.in-Ok.matches c.found_job.result
    (c.in-Ok.ensures.kinds (is_known app c.in_ok-program.ensures)) c.in-Ok.ensures.matches
    job.range job.job job.refusal job.err

pub returns-in-Err-clause-answers : goal.returns-in-Err-clause-answers
returns-in-Err-clause-answers c =
    let app = N.app_of c.in_ok-program.program in
    N.Found.refused app (map N.string_bytes c.args.arguments.now) c.in_ok-program.ensures c.in-Err.error c.usage_of.result
    (c.in-Err.ensures.kinds (is_known app c.in_ok-program.ensures)) c.usage_of.ensures
