use Rattle.tds_export.proofs as N
use N.notice.take_notice.Goals as goal
use N.{rules, ◌≡◌}
use N.Bodies.{body_taken}

pub returns-in_err-fill-clause-gives : goal.returns-in_err-fill-clause-gives
returns-in_err-fill-clause-gives g c = grind (N.arith, N.common_steps, N.passed, N.Bodies.length_cut)

pub returns-then-length-lt-LEAST_NOTICE-clause-gives : goal.returns-then-length-lt-LEAST_NOTICE-clause-gives
returns-then-length-lt-LEAST_NOTICE-clause-gives g c = λ _ _ _ _ notice. rw (c.in_payload.ensures, c.place-place.ensures)
    (N.Bodies.length_refused _ _ notice (record
    { two = search rules; is = c.read_u16-length.ensures; takes = c.in_ok-fill.ensures.all; at = c.in_ok-fill.ensures.place })
    c.if-length-lt-LEAST_NOTICE.true c.in_ok-fill.ensures.between)

pub returns-in_err-read_into-clause-gives : goal.returns-in_err-read_into-clause-gives
returns-in_err-read_into-clause-gives g c = grind (N.arith, N.common_steps, N.passed, N.Bodies.body_cut)

pub returns-then-not-lengths_fit-clause-gives : goal.returns-then-not-lengths_fit-clause-gives
returns-then-not-lengths_fit-clause-gives g c = λ _ _ _ _ notice. let t = c.in_ok-read_into.ensures.gives in
    let is : c.read_into.new.area.bytes ≡ t.element = rw (t.stands, c.clear.ensures.value) N.refl in
    let passes : N.holds_notice c.read_into.new.area.bytes ≡ N.false = search rules in
    rw (c.in_payload-then-not-lengths_fit.ensures, c.place-place-2.ensures) (N.Bodies.body_refused _ _ notice
    {element = c.fill.new.to} (search rules) (omega (N.arith, c.if-length-lt-LEAST_NOTICE.false, c.from.ensures)) t (rw is at passes))

pub returns-clause-gives : goal.returns-clause-gives
returns-clause-gives g c = λ _ _ _ _ notice. let t = c.in_ok-read_into.ensures.gives in
    let is : c.read_into.new.area.bytes ≡ t.element = rw (t.stands, c.clear.ensures.value) N.refl in
    let holds : N.holds_notice c.read_into.new.area.bytes ≡ N.true = search rules in
    rw is (body_taken _ _ notice {element = c.fill.new.to} (search rules) (omega (N.arith, c.if-length-lt-LEAST_NOTICE.false, c.from.ensures)) t
    c.in_ok-read_into.ensures.place (rw is at holds))
