use Rattle.tds_export.proofs as N
use N.exporter.Exporter.info.Goals as goal

pub returns-in_err-pass_notice : goal.returns-in_err-pass_notice
returns-in_err-pass_notice g c = N.TokenSteps.step_read c.requires.running (search N.rules)
    (λ tokens begun. N.passed _ _ _ _ c.from_residual.ensures.1
    (N.Bodies.notice_stops _ begun (c.in_err-pass_notice.ensures.gives.1 _ _ tokens N.AnInfo N.refl)))

pub returns : goal.returns
returns g c = N.TokenSteps.step_read c.requires.running (search N.rules) (λ tokens begun.
    let x = c.in_ok-pass_notice.ensures.gives.1 _ _ tokens N.AnInfo N.refl in
    N.TokenSteps.quietly begun N.refl (N.TokenSteps.bare_reads begun _ x.reads x.place_is N.refl N.refl (grind (N.arith, N.TokenLaws.tracked))))
