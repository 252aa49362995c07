use Rattle.tds_text.proofs as N
use N.{arith}
use N.usual.joined_characters.Goals as goal

pub returns-then-begins_two-clause-next : goal.returns-then-begins_two-clause-next
returns-then-begins_two-clause-next c = N.JoinedText.run_text_before _ _ _ c.requires.lies (omega arith) (grind arith)
    _ (omega arith) (omega arith) (omega arith) (grind arith)

pub returns-clause-next : goal.returns-clause-next
returns-clause-next c = N.JoinedText.run_text _ _ _ c.requires.lies (omega arith) (grind arith)
    _ (omega arith) (omega arith) (λ some. grind arith)
