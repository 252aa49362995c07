use Rattle.tds_export.proofs as N
use N.exporter.Exporter.return_value.Goals as goal

pub returns-in_err-pass_return : goal.returns-in_err-pass_return
returns-in_err-pass_return g c = N.TokenSteps.step_read c.requires.running (search N.rules)
    (λ _ begun. N.passed _ _ _ _ c.from_residual.ensures.1 (N.Bodies.return_stops _ begun c.in_err-pass_return.ensures.gives))

pub returns : goal.returns
returns g c = N.TokenSteps.step_read c.requires.running (search N.rules) (λ _ begun. N.Bodies.return_reads _ begun c.in_ok-pass_return.ensures.gives)
