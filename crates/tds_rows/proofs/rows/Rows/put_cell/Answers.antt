use Rattle.tds_rows.proofs as N
use N.rows.Rows.put_cell.Goals as goal
use N.{ap}

pub returns-in-Ok : goal.returns-in-Ok
returns-in-Ok g c =
    let old = c.args.self.now in
    let at = N.RunPuts.consumed old.payload.now c.in-Ok.cell.used c.consume.ensures.rest (search N.arith) in
    record {
      leaves = search N.arith;
      cell =
          let alone = rw c.buffered-bytes.ensures at c.in-Ok.ensures.cell in
          N.RunPuts.put_whole g.R.Read.remaining old.payload.now c.consume.new.self _ _ c.requires.in_row.sink
          (search N.rules) at alone.1.whole c.consume.ensures.gives c.put.ensures;
    }

-- a long value is that of its kind
pub returns-in-Some : goal.returns-in-Some
returns-in-Some g c =
    let arm = c.in-Some.ensures in
    record {
      leaves = search N.rules;
      cell =
          let start = N.sym (ap (N.cell_start c.args.format.now.kind) (rw arm.short at c.requires.laid)) in
          rw start at (rw c.is_last-last.ensures at c.put_joined.ensures.field);
    }

pub returns-in-Err-Long : goal.returns-in-Err-Long
returns-in-Err-Long g c =
    let arm = c.in-Err-Long in
    record {
      leaves = search N.rules;
      cell =
          let start = N.sym (ap (N.cell_start c.args.format.now.kind) (rw arm.field-0-is at arm.ensures.left)) in
          rw start at (rw (arm.content-is, arm.reach-is, c.is_last-last-in-Err-Long.ensures) at c.put_joined-in-Err-Long.ensures.field);
    }
