use Rattle.tds_csv.proofs as N
use N.joiners.utf8.Utf8Joiner.push_long.Goals as goal
use N.Utf8Pushing.{pushes_long}

pub returns-in_err-push_short : goal.returns-in_err-push_short
returns-in_err-push_short g c = N.Utf8Pushing.pushes_passed c.requires.long c.from_residual.ensures.1 c.in_err-push_short.ensures

pub returns-in-Ok : goal.returns-in-Ok
returns-in-Ok g c = pushes_long c.requires.long c.bytes.ensures.value c.bytes.ensures.fits c.in_ok-push_short.ensures c.in-Ok.ensures

pub returns-in-Err-BadText : goal.returns-in-Err-BadText
returns-in-Err-BadText g c = pushes_long c.requires.long c.bytes.ensures.value c.bytes.ensures.fits c.in_ok-push_short.ensures
    (rw c.in-Err-BadText.field-0-is at c.in-Err-BadText.ensures)

pub returns-in-Err-Stopped : goal.returns-in-Err-Stopped
returns-in-Err-Stopped g c = pushes_long c.requires.long c.bytes.ensures.value c.bytes.ensures.fits c.in_ok-push_short.ensures
    (rw c.in-Err-Stopped.field-0-is at c.in-Err-Stopped.ensures)
