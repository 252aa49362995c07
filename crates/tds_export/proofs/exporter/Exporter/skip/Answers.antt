use Rattle.tds_export.proofs as N
use N.exporter.Exporter.skip.Goals as goal
use N.{refl}
use N.TokenSteps.{begun_in, stops_first}

pub returns-in_err-fill-clause-gives : goal.returns-in_err-fill-clause-gives
returns-in_err-fill-clause-gives g c = λ _ quiet _ tracks holds noted.
    N.passed _ _ _ _ c.from_residual.ensures.1 (stops_first (begun_in g.R.Read.remaining g.W.Write.contents c.requires.running tracks holds noted) refl
    refl (grind (N.arith, N.ResponseLaws.fill_cut)))

pub returns-in_err-pass-clause-gives : goal.returns-in_err-pass-clause-gives
returns-in_err-pass-clause-gives g c = λ _ quiet _ tracks holds noted. let cut = c.in_err-pass.ensures.part c.in_ok-fill.ensures.payload.going in
    N.passed _ _ _ _ c.from_residual-in_err-pass.ensures.1
    (N.Bodies.quiet_stops _ (begun_in g.R.Read.remaining g.W.Write.contents c.requires.running tracks holds noted) quiet
    (record { two = search N.rules; is = search N.rules; takes = c.in_ok-fill.ensures.all; at = c.in_ok-fill.ensures.place }) cut.fewer cut.ends cut.stop_is)

pub returns-clause-gives : goal.returns-clause-gives
returns-clause-gives g c = λ _ quiet _ tracks holds noted. let all = c.in_ok-pass.ensures.all in
    N.Bodies.quiet_reads _ (begun_in g.R.Read.remaining g.W.Write.contents c.requires.running tracks holds noted) quiet
    (record { two = search N.rules; is = search N.rules; takes = c.in_ok-fill.ensures.all; at = c.in_ok-fill.ensures.place })
    _ all.counted all.takes c.in_ok-pass.ensures.place
