use Rattle.tds_rows.proofs as N
use N.cell.streamed.LongValue.take_chunks.Goals as goal

pub returns-clause-chunks : goal.returns-clause-chunks
returns-clause-chunks g c =
    let run = c.write_chunks-run.result.span in
    record {
      bytes = N.take run.used (N.buffered c.args.self.now.payload.now);
      text = N.take run.made c.write_chunks-run.new.to;
      wrote = rw c.buffered-bytes.ensures at c.write_chunks-run.ensures.chunks;
      takes = c.consume.ensures.gives;
      puts = N.RunPuts.kept_text _ _ _ _ _ c.write_chunks-run.auto.to c.waiting-waiting.ensures _ c.commit.ensures.gives;
      place_is = N.RunPuts.consumed c.args.self.now.payload.now _ c.consume.ensures.rest (search N.arith);
    }

pub returns-then-next_chunk-eq0-clause-chunks : goal.returns-then-next_chunk-eq0-clause-chunks
returns-then-next_chunk-eq0-clause-chunks g c = record {
  bytes = N.[];
  text = N.[];
  wrote = λ conversion suits content is begun counted column last. N.ChunkRuns.chunks_none conversion column last c.args.total is begun;
  takes = N.Takes-none _ 0;
  puts = N.Puts-none _ c.requires.joining.sink.ready.2;
  place_is = omega N.arith;
}
