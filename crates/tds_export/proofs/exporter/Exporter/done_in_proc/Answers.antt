use Rattle.tds_export.proofs as N
use N.exporter.Exporter.done_in_proc.Goals as goal
use N.{refl}

pub returns-in_err-pass : goal.returns-in_err-pass
returns-in_err-pass g c = N.TokenSteps.step_read c.requires.running (search N.rules)
    (λ _ begun. let cut = c.in_err-pass.ensures.part c.requires.running.payload.going in
    N.passed _ _ _ _ c.from_residual.ensures.1 (N.TokenSteps.stops_first begun refl refl (N.ResponseLaws.part_cut refl refl cut.fewer cut.ends cut.stop_is)))

pub returns : goal.returns
returns g c = N.TokenSteps.step_read c.requires.running (search N.rules) (λ _ begun. let all = c.in_ok-pass.ensures.all in
    N.TokenSteps.fixed_reads _ begun {which = N.ADoneInProc} _ c.in_ok-pass.ensures.place all.counted all.takes
    (N.TokenLaws.tracks_quiet begun.tracks _ refl begun.tracks.final) refl)
