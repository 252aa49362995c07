use Rattle.tds_cells.proofs as N
use N.{arith, ◌∙◌}

pub returns : N.whole.write_no_value.Goals.returns
returns c = record {
  cell = (
    search arith,
    λ column last.
        let bytes = c.args.bytes.now in
        let at = N.LaidOut.value_there _ _ _ bytes 1 (N.slice_index bytes 0) c.requires.laid (N.LaidOut.counted_there bytes c.in-Counted.is N.refl) in
        N.RunSteps.writes_scalar (λ any. N.ValueCells.null_cell any _ column last bytes _ at.0 1 at.1.0 (N.sym at.1.1 ∙ search (arith, N.rules))
        (search (arith, N.rules)) (grind arith)),
  );
}
