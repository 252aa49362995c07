use Rattle.tds_packet.proofs as N
use N.packet.read_packet.Goals as goal

pub returns-in_err-fill-clause-read : goal.returns-in_err-fill-clause-read
returns-in_err-fill-clause-read = grind (N.arith, N.Joins.fill_err)

pub returns-in_err-head-clause-read : goal.returns-in_err-head-clause-read
returns-in_err-head-clause-read = grind (N.arith, N.Joins.header_err, N.device)

pub returns-in_err-read_body-clause-read : goal.returns-in_err-read_body-clause-read
returns-in_err-read_body-clause-read g c =
    let fill = c.in_ok-fill.ensures.read in
    N.Joins.body_err c.args.packet.now.room c.args.max_wire c.args.wire _ _ _ _ c.in_ok-head.head c.fill.new.to (grind N.arith) fill.0 fill.1
    (grind N.arith) (grind N.arith) _ _ c.from_residual-in_err-read_body.ensures.1 c.in_err-read_body.ensures.bytes

pub returns-clause-read : goal.returns-clause-read
returns-clause-read g c =
    let fill = c.in_ok-fill.ensures.read in
    let body = c.in_ok-read_body.ensures.bytes in
    N.Joins.body_ok c.args.packet.now.room c.args.max_wire c.args.wire _ _ _ _ _ c.fill.new.to (grind N.arith) fill.0 fill.1 (grind N.arith)
    (grind N.arith) body.0 body.1
