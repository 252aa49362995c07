use Rattle.tds_cells.proofs as N
use N.{arith}
use N.whole.write_apart.Goals as goal

pub returns-then-total : goal.returns-then-total
returns-then-total c = record {
  cell = (
    search arith,
    λ column last.
        N.ChunkedCells.chunked_null column _ last c.args.bytes.now _ (λ i. (c.type_inv.bytes i).fits) (search (arith, N.rules)) (search (arith, N.rules))
        (grind arith),
  );
}

pub returns : goal.returns
returns c = record {
  cell = rw (N.ChunkedCells.end_some c.in-Some.n c.chunk_end.result c.chunk_end.ensures) ((
    search (arith, N.rules, N.ChunkedCells.one_chunk_size),
    λ column last.
        let gives = rw (N.all_after c.args.bytes.now 12) at c.in-Some-write_field.ensures.gives in
        rw c.chunk_end.ensures (grind (arith, N.ChunkedCells.chunked_value)),
  ));
}
