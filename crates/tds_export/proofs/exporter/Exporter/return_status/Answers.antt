use Rattle.tds_export.proofs as N
use N.exporter.Exporter.return_status.Goals as goal
use N.{refl, rules, ◌++◌, ◌∙◌, ◌∷◌, ◌≡◌}

tracks_status : {s : N.Progress} {ts : N.List N.Token} (n : N.ℕ) {status : N.ℤ} → status ≡ N.signed n → N.TracksBefore s ts
    → N.Tracks (record s { report = record s.report { return_status = N.Some status } }) (ts ++ N.ReturnStatus n ∷ N.[])
tracks_status n e k = grind (N.arith, N.TokenLaws.tracked)

pub returns-in_err-fill : goal.returns-in_err-fill
returns-in_err-fill g c = N.TokenSteps.step_read c.requires.running (search rules) (λ _ begun.
    N.passed _ _ _ _ c.from_residual.ensures.1 (N.TokenSteps.stops_first begun refl refl
    (grind (N.arith, N.ResponseLaws.fill_cut))))

pub returns : goal.returns
returns g c = N.TokenSteps.step_read c.requires.running (search rules) (λ _ begun. let fields = c.fill.new.to in
    let four : N.length fields ≡ 4 = search rules in
    let status = N.cast_signed N.w32 (N.cast_unsigned N.w32 c.read_i32-status.result) in
    let kept : status ≡ c.read_i32-status.result = search rules in
    let is = kept ∙ c.read_i32-status.ensures ∙ N.ResponseLaws.signed_is _ ∙ N.ap (λ n. N.signed (N.little_number n fields)) (N.sym four) in
    N.TokenSteps.fixed_reads _ begun _ (grind N.arith) four (grind N.arith) (tracks_status _ is begun.tracks) refl)
