use Rattle.tds_export.proofs as N
use N.exporter.Exporter.error.Goals as goal
use N.{Space, ap, refl, ◌-◌, ◌∙◌, ◌≤◌}
use N.TokenSteps.{step_read}

pub returns-in_err-pass_notice : goal.returns-in_err-pass_notice
returns-in_err-pass_notice g c = step_read c.requires.running (search N.rules) (λ tokens begun.
    N.passed _ _ _ _ c.from_residual.ensures.1 (N.Bodies.notice_stops _ begun (c.in_err-pass_notice.ensures.gives.1 _ _ tokens N.AnError refl)))

pub returns-then-self-gt0 : goal.returns-then-self-gt0
returns-then-self-gt0 g c = step_read c.requires.running (search N.rules)
    (λ tokens begun. N.Bodies.later_error_reads _ begun (c.in_ok-pass_notice.ensures.gives.1 _ _ tokens N.AnError refl) c.if-self-gt0.true)

pub returns-in_err-take_notice : goal.returns-in_err-take_notice
returns-in_err-take_notice g c = step_read c.requires.running (search N.rules) (λ tokens begun.
    N.passed _ _ _ _ c.from_residual-in_err-take_notice.ensures.1
    (N.Bodies.notice_stops _ begun (c.in_err-take_notice.ensures.gives _ _ tokens N.AnError refl)))

pub returns : goal.returns
returns g c =
    let cleared = c.clear.new.self in
    let empty = ap (λ (s : Space). s.bytes) c.clear.ensures.value in
    step_read c.requires.running (search (
      N.rules,
      N.subst (λ (s : Space). s.peak ≤ s.room) (N.sym c.utf16_into.ensures) (N.Bodies.within_room (N.characters c.message_of.result.now) empty
          c.clear.ensures.peak),
    )) (λ tokens begun. let body = c.bytes-body.ensures.value in
    let error = c.error_of.ensures ∙ ap (λ l. N.server_error (N.notice_of l)) body in
    let message = c.message_of.ensures.value ∙ ap (λ l. (N.notice_of l).message) body in
    rw error (N.Bodies.first_error_reads _ begun (c.in_ok-take_notice.ensures.gives _ _ tokens N.AnError refl) _
    (grind (N.arith, N.nat_tests, c.if-self-gt0.false)) empty
    (ap (λ (s : Space). s.room) c.clear.ensures.value ∙ c.requires.running.notice) (c.utf16_into.ensures
    ∙ ap (λ l. N.appended cleared (N.whole_within (cleared.room - N.length cleared.bytes) (N.characters l))) message)))
