use Rattle.tds_rows.proofs as N
use N.cell.streamed.LongValue.chunks.Given as goal
use N.{◌≡◌, ◌-◌, ◌≤◌}

abbrev pub invariant-loop-n : goal.invariant-loop-n
invariant-loop-n g l = record {
  leaves : N.LeavesValue {U = N.⊤} l.fn.self l.self (N.Ok tt);
  begun : g.J.Joiner.begins (g.J.Joiner.withheld l.self.joiner.now);
  few : l.sum ≤ l.self.payload.now.place;
  calm : N.failures_of l.self.payload.now l.self.sink.now ≡ N.failures_of l.fn.self.payload.now l.fn.self.sink.now;
  streamed : (c : N.Conversion) → N.Suits g.J.Joiner.fit g.J.Joiner.begins g.J.Joiner.rest g.J.Joiner.text g.J.Joiner.UNIT g.J.Joiner.QUOTED c
      → N.LongValues.Streamed l.fn.self.column l.fn.self.last c l.total (g.J.Joiner.withheld l.self.joiner.now) l.sum
      (N.Paths.at_of g.R.Read.remaining g.W.Write.contents l.fn.self.payload.now l.fn.self.sink.now)
      (N.Paths.at_of g.R.Read.remaining g.W.Write.contents l.self.payload.now l.self.sink.now);
}

abbrev pub decreases-loop-n : goal.decreases-loop-n
decreases-loop-n g l = l.self.payload.now.max_wire - l.self.payload.now.place
