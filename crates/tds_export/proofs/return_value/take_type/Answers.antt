use Rattle.tds_export.proofs as N
use N.return_value.take_type.Goals as goal
use N.{refl, seen, ◌∙◌, ◌≡◌}

pub returns-in_err-read_into-clause-gives : goal.returns-in_err-read_into-clause-gives
returns-in_err-read_into-clause-gives g c = λ name. N.passed _ _ _ _ c.from_residual.ensures.1
    (record { at = N.ReturnHead name; stops = N.cut_into (c.in_err-read_into.ensures.gives c.requires.going.going) refl refl })

pub returns-clause-gives : goal.returns-clause-gives
returns-clause-gives g c = λ _. let t = c.in_ok-read_into.ensures.gives in
    let is : c.read_into.new.area.bytes ≡ t.element = rw (t.stands, c.clear.ensures.value) refl in
    let takes = rw (← is) at t.takes in
    N.Bodies.type_taken _ _ _ _ _ _ _ _ _ (N.ap N.length is ∙ t.whole) takes c.in_ok-read_into.ensures.place
    c.read_type_info.ensures.kind (c.read_type_info.ensures.gives (seen g.R.Read.remaining c.args.payload.now) (takes, t.between))
