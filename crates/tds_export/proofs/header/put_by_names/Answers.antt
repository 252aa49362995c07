use Rattle.tds_export.proofs as N
use N.header.put_by_names.Goals as goal

pub returns : goal.returns
returns g c = N.NameTexts.then_puts c.in_ok-put_between.ensures c.put_names.ensures
