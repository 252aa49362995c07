use Rattle.tds_rows.proofs as N
use N.cell.streamed.LongValue.push_data.Given as goal
use N.{◌≡◌, ◌<◌, ◌+◌}

abbrev pub invariant-loop-left : goal.invariant-loop-left
invariant-loop-left g l = record {
  leaves : N.LeavesValue {U = N.⊤} l.initial.self l.self (N.Ok tt);
  begun : g.J.Joiner.begins (g.J.Joiner.withheld l.self.joiner.now);
  some : 0 < l.left;
  calm : N.failures_of l.self.payload.now l.self.sink.now ≡ N.failures_of l.initial.self.payload.now l.initial.self.sink.now;
  place : l.self.payload.now.place + l.left ≡ l.initial.self.payload.now.place + l.n;
  filled : (c : N.Conversion) (content : N.List N.ℕ)
      → N.Suits g.J.Joiner.fit g.J.Joiner.begins g.J.Joiner.rest g.J.Joiner.text g.J.Joiner.UNIT g.J.Joiner.QUOTED c
      → g.J.Joiner.withheld l.initial.self.joiner.now ≡ N.conversion_rest c content → N.BeginsData c content
      → N.JoinedPieces.Filled c content (g.J.Joiner.withheld l.self.joiner.now)
      (N.Paths.at_of g.R.Read.remaining g.W.Write.contents l.initial.self.payload.now l.initial.self.sink.now)
      (N.Paths.at_of g.R.Read.remaining g.W.Write.contents l.self.payload.now l.self.sink.now) l.n l.left;
}

abbrev pub decreases-loop-left : goal.decreases-loop-left
decreases-loop-left g l = l.left
