use Rattle.tds_rows.proofs as N
use N.rows.Rows.refuse.Goals as goal

pub returns : goal.returns
returns g c = record {
  leaves = search N.arith;
  cell =
      let old = c.args.self.now.payload.now in
      let all = N.take_all (N.length c.buffered-left.result.now) (N.buffered old) (search N.rules) in
      rw (c.requires.in_row.sink.writing, c.refusal.ensures, c.place-place.ensures) (N.RowSteps.at_once_stalls _ _ _ _ c.requires.in_row.sink.ready.2
      (search (N.rules, N.CellSteps.refused_stalls)));
}
