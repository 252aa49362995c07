use Rattle.tds_csv.proofs as N
use Rattle.tds_text.proofs as T
use N.joiners.into_area.utf16_into.Goals as goal
use N.{◌∙◌}

pub returns-in-Err : goal.returns-in-Err
returns-in-Err c = c.in-Err.ensures.err ∙ N.CutText.stays_cut c.loop-at.invariant.added _ _ c.character_at-next.ensures.spells (grind N.arith)
    c.in-Err.ensures.full

pub loop-at-preserved : goal.loop-at-preserved
loop-at-preserved = grind (N.arith, N.CutText.added_more)

pub returns : goal.returns
returns c = N.CutText.stays_whole c.loop-at.invariant.added (rw (N.nil_from_length (N.drop c.loop-at.at c.args.units.now)
    (omega (N.arith, N.length-drop c.loop-at.at c.args.units.now))) T.Utf16Steps.characters_nil)
