use Rattle.tds_rows.proofs as N
use N.cell.chunk_runs.write_chunks.Goals as goal
use N.{◌*◌, ◌+◌, ◌≤◌, arith, length}
use N.ChunkRuns.{HasChunk, added_most, chunk_step}

pub loop-total-preserved : goal.loop-total-preserved
loop-total-preserved g c =
    let l = c.loop-total in
    let w = c.in-Some.ensures in
    let next = c.next_chunk-n.ensures.chunk (search N.rules) in
    let chunk : HasChunk c.args.bytes.now l.at c.args.total (c.args.sum + l.data) c.next_chunk-n.result =
    record { some = omega arith; whole = next.0; number = next.1; fits = next.2 } in
    let fits : 3 * c.next_chunk-n.result ≤ length c.write.new.to = omega arith in
    record {
      begun = w.begun;
      used = omega (arith, chunk.whole);
      room = omega (arith, added_most c.next_chunk-n.result _ w.written);
      few = omega (arith, l.invariant.few);
      chunks = λ conversion suits content is begun counted column last.
          chunk_step suits column last l.to _ counted (search N.rules) chunk w.written
          l.invariant.room fits;
    }
