use Rattle.tds_export.proofs as N
use N.return_value.pass_name.Goals as goal
use N.{ap, refl, ◌*◌}

pub returns-in_err-pass-clause-gives : goal.returns-in_err-pass-clause-gives
returns-in_err-pass-clause-gives g c =
    let cut = c.in_err-pass.ensures.part c.requires.going in
    N.passed _ _ _ _ c.from_residual.ensures.1 (record { at = N.ReturnOrdinal; stops = N.ResponseLaws.part_cut refl refl cut.fewer cut.ends cut.stop_is })

pub returns-in_err-fill-clause-gives : goal.returns-in_err-fill-clause-gives
returns-in_err-fill-clause-gives g c =
    let ordinal = c.in_ok-pass.ensures.all in
    N.passed _ _ _ _ c.from_residual-in_err-fill.ensures.1 (N.Bodies.return_stops_after
    (N.Bodies.ordinal_read _ _ ordinal.counted ordinal.takes c.in_ok-pass.ensures.place)
    (record {
      at = N.ReturnNameCount;
      stops = grind (N.arith, N.ResponseLaws.fill_cut);
    }))

pub returns-in_err-pass-2-clause-gives : goal.returns-in_err-pass-2-clause-gives
returns-in_err-pass-2-clause-gives g c =
    let ordinal = c.in_ok-pass.ensures.all in
    let cut = c.in_err-pass-2.ensures.part c.in_ok-fill.ensures.payload.going in
    N.passed _ _ _ _ c.from_residual-in_err-pass-2.ensures.1
    (N.Bodies.return_stops_after (N.Bodies.front_read _ _ ordinal.counted ordinal.takes c.in_ok-pass.ensures.place
    _ (search N.rules) c.in_ok-fill.ensures.all c.in_ok-fill.ensures.place) (N.Bodies.name_cut _ (ap (λ n. 2 * n) c.from.ensures) cut.fewer cut.ends
    cut.stop_is))

pub returns-clause-gives : goal.returns-clause-gives
returns-clause-gives g c =
    let ordinal = c.in_ok-pass.ensures.all in
    let name = c.in_ok-pass-2.ensures.all in
    record {
      name = name.bytes;
      steps = N.Bodies.return_reads_after (N.Bodies.front_read _ _ ordinal.counted ordinal.takes c.in_ok-pass.ensures.place
          _ (search N.rules) c.in_ok-fill.ensures.all c.in_ok-fill.ensures.place) (N.Bodies.name_read _ (ap (λ n. 2 * n) c.from.ensures)
          name.counted name.takes c.in_ok-pass-2.ensures.place);
    }
