use Rattle.tds_rows.proofs as N
use N.rows.Rows.put_whole_rows.Goals as goal
use N.{[]}

pub returns-then-TOKEN-clause-rows : goal.returns-then-TOKEN-clause-rows
returns-then-TOKEN-clause-rows g c = λ columns knows. record {
  bytes = [];
  text = [];
  wrote = (N.refl, N.refl);
  takes = search N.rules;
  puts = N.Puts-none (N.held g.W.Write.contents c.args.self.now.sink.now) c.requires.in_row.0.sink.ready.2;
  place_is = N.sym (N.add-zero _);
}
