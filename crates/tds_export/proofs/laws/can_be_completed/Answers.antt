use Rattle.tds_export.proofs as N
use N.laws.can_be_completed.Goals as goal

pub returns : goal.returns
returns c = N.Completed.can_be_completed
