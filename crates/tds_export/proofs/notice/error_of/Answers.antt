use Rattle.tds_export.proofs as N
use N.notice.error_of.Goals as goal
use N.{w32, ◌-◌, ◌∙◌, ◌≡◌}

pub returns : goal.returns
returns c =
    let number : N.cast_signed w32 (N.cast_unsigned w32 c.read_i32-number.result) ≡ c.read_i32-number.result = search N.rules in
    let body = c.args.body.now in
    let at = c.line_start.result in
    let kept : N.cast_signed w32 (N.cast_unsigned w32 c.read_i32-line.result) ≡ c.read_i32-line.result = search N.rules in
    N.ResponseLaws.error_is _ _ c.requires.long c.line_start.ensures (N.ResponseLaws.parts_within _ c.requires.holds).2 (number ∙ c.read_i32-number.ensures)
    (kept ∙ c.read_i32-line.ensures
    ∙ N.ap (λ l. N.cast_signed w32 (N.little_number 4 l)) (N.take_all (N.length body - at) (N.drop at body) (omega (N.arith, N.length-drop at body))))
