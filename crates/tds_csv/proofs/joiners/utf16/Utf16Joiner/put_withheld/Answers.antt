use Rattle.tds_csv.proofs as N
use N.joiners.utf16.Utf16Joiner.put_withheld.Goals as goal
use N.{◌∙◌}
use Rattle.tds_text.proofs as T
use T.Utf16Steps.{some_leads}

pub returns-then-is_empty-clause-puts : goal.returns-then-is_empty-clause-puts
returns-then-is_empty-clause-puts g c = N.PutParts.none_put _ (N.sym c.bytes-kept.ensures.value ∙ (N.nil_from_length _ (search N.rules))) c.requires.writing

pub returns-clause-leads : goal.returns-clause-leads
returns-clause-leads g c =
    some_leads c.args.piece.now c.bytes.result.now c.in_ok-used.used c.bytes-kept.ensures.value (search N.rules) c.requires.long (grind N.arith)
    c.in_ok-used.ensures.used
