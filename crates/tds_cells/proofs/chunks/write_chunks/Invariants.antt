use Rattle.tds_cells.proofs as N
use N.{length, ◌+◌, ◌-◌, ◌≡◌, ◌≤◌}
use N.chunks.write_chunks.Given as goal

abbrev pub invariant-loop-n : goal.invariant-loop-n
invariant-loop-n l = record {
  within : l.at ≤ length l.bytes;
  few : l.sum ≤ l.at;
  room : l.made + 16 ≤ length l.to;
  size : length l.to ≡ length l.fn.to;
  wrote : N.SeveralChunks.WroteChunks (N.conversion_of l.content) l.bytes l.to l.at l.made l.sum;
}

abbrev pub decreases-loop-n : goal.decreases-loop-n
decreases-loop-n l = length l.bytes - l.at
