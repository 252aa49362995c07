use Rattle.tds_export.proofs as N
use N.header.put_between.Goals as goal

pub returns-else-begun : goal.returns-else-begun
returns-else-begun g c = rw c.if-begun.false (N.PutsPiece-none _ _ _ c.requires)
