use Rattle.tds_rows.proofs as N
use N.rows.Rows.put_within.Goals as goal
use N.{◌∙◌, ◌-◌}

pub returns-clause-ends : goal.returns-clause-ends
returns-clause-ends g c =
    let old = c.args.self.now in
    let run = c.run-run in
    let lent = c.spare-spare.result.now in
    let room = N.RunPuts.room_left (N.held g.W.Write.contents old.sink.now) (N.held g.W.Write.contents c.commit.new.self) lent run.new.to _ run.auto.to
    c.waiting-waiting.ensures run.result.made c.commit.ensures.gives (search N.arith)
    (omega (N.arith, c.requires.in_row.sink.ready.1 c.requires.in_row.sink.writing)) in
    let rest = N.drop-drop run.result.used old.payload.now.at _ ∙ N.ap N.buffered (N.sym c.consume.ensures.rest) in
    rw room at (rw rest at (rw c.buffered-bytes.ensures at run.ensures.ends))
