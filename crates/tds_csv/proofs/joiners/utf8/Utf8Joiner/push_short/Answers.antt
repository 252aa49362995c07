use Rattle.tds_csv.proofs as N
use N.joiners.utf8.Utf8Joiner.push_short.Goals as goal
use N.{◌++◌, ◌≡◌}
use Rattle.tds_text.proofs.OpenTexts.{after_kept}

pub overflow_sub-result : goal.overflow_sub-result
overflow_sub-result g c =
    let is : c.bytes.result.now ≡ c.args.self.now.kept ++ c.args.piece.now = grind N.arith in
    rw c.bytes-kept.ensures.value (after_kept _ _ _ _ is c.requires.taking.begun (rw c.in-Err-BadText.field-0-is at c.in-Err-BadText.ensures).gives.bad)

pub returns-in-Err-BadText : goal.returns-in-Err-BadText
returns-in-Err-BadText g c = rw c.bytes-kept.ensures.value (N.Utf8Pushing.pushes_seam (grind N.arith) c.requires.taking.begun
    (rw c.in-Err-BadText.field-0-is at c.in-Err-BadText.ensures))
