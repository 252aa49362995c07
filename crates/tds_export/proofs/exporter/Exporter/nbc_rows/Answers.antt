use Rattle.tds_export.proofs as N
use N.exporter.Exporter.nbc_rows.Goals as goal
use N.{ap, ◌∙◌}

pub returns-in_err-rows : goal.returns-in_err-rows
returns-in_err-rows g c = N.TokenSteps.step_read c.requires.begun.running (search N.rules) (λ _ begun. N.passed _ _ _ _ c.from_residual.ensures.1
    (N.TokenSteps.rows_stop c.requires.described (ap N.columns_of (c.view-columns.ensures ∙ c.bytes.ensures.value)) begun c.in_err-rows.ensures.rows))

pub returns : goal.returns
returns g c = N.TokenSteps.step_read c.requires.begun.running (search N.rules)
    (λ _ begun. N.TokenSteps.rows_read c.requires.described (ap N.columns_of (c.view-columns.ensures ∙ c.bytes.ensures.value)) begun
    c.in_ok-rows.ensures.rows)
