use Rattle.tds_rows.proofs as N
use N.rows.Rows.put_via_scratch.Goals as goal
use N.{arith}

pub returns-in_err-put : goal.returns-in_err-put
returns-in_err-put g c =
    let run = c.run-run in
    let at = N.RunPuts.consumed c.args.self.now.payload.now run.result.used c.consume.ensures.rest (search arith) in
    record {
      leaves = search arith;
      few = search arith;
      cells = N.passed _ _ _ _ c.from_residual.ensures.1 (N.RunPuts.run_put _ _ _
          (rw c.buffered-bytes.ensures at run.ensures.cells) c.consume.ensures.gives (search N.rules) at
          c.requires.in_row.sink c.in_err-put.ensures);
    }

pub returns : goal.returns
returns g c = search (N.rules, N.RunPuts.consumed, N.RunPuts.run_put)
