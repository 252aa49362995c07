use Rattle.tds_export.proofs as N
use N.exporter.Exporter.rows.Goals as goal
use N.{ap, ◌∙◌}

pub returns-in_err-count : goal.returns-in_err-count
returns-in_err-count g c = N.TokenSteps.step_read c.requires.begun.running (search N.rules) (λ _ begun. N.passed _ _ _ _ c.from_residual.ensures.1
    (N.TokenSteps.rows_stop c.requires.described (ap N.columns_of (c.view-columns.ensures ∙ c.bytes.ensures.value)) begun c.in_err-count.ensures.rows))

pub returns : goal.returns
returns g c = N.TokenSteps.step_read c.requires.begun.running (search N.rules)
    (λ _ begun. N.TokenSteps.rows_read c.requires.described (ap N.columns_of (c.view-columns.ensures ∙ c.bytes.ensures.value)) begun
    c.in_ok-count.ensures.rows)
