use Rattle.tds_export.proofs as N
use N.exporter.Exporter.done.Goals as goal
use N.{refl, rules, ◌≡◌}

pub returns-in_err-fill : goal.returns-in_err-fill
returns-in_err-fill g c = N.TokenSteps.step_read c.requires.running (search rules) (λ _ begun.
    N.passed _ _ _ _ c.from_residual.ensures.1 (N.TokenSteps.stops_first begun refl refl
    (grind (N.arith, N.ResponseLaws.fill_cut))))

pub returns : goal.returns
returns g c = N.TokenSteps.step_read c.requires.running (search rules)
    (λ _ begun. let twelve : N.length c.fill.new.to ≡ 12 = search rules in
    N.TokenSteps.fixed_reads _ begun {which = N.ADone} _ (grind N.arith) twelve (grind N.arith)
    (N.TokenLaws.tracks_quiet begun.tracks _ refl (grind N.arith)) refl)
