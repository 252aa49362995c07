use Rattle.tds_rows.proofs as N
use N.cell.chunk_runs.write_chunks.Given as goal
use N.{◌-◌, ◌≤◌}
use Rattle.tds_rows.specs.ChunkRuns.{RunsChunks}

abbrev pub invariant-loop-total : goal.invariant-loop-total
invariant-loop-total g l = record {
  begun : g.J.Joiner.begins (g.J.Joiner.withheld l.joiner);
  used : l.at ≤ N.length l.bytes;
  room : l.made ≤ N.length l.to;
  few : l.data ≤ l.at;
  chunks : RunsChunks g.J.Joiner.fit g.J.Joiner.begins g.J.Joiner.rest g.J.Joiner.text g.J.Joiner.UNIT g.J.Joiner.QUOTED
      (g.J.Joiner.withheld l.fn.joiner) (g.J.Joiner.withheld l.joiner) l.total l.sum l.data (N.take l.at l.bytes) (N.take l.made l.to);
}

abbrev pub decreases-loop-total : goal.decreases-loop-total
decreases-loop-total g l = N.length l.bytes - l.at
