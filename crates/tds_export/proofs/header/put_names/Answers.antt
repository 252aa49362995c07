use Rattle.tds_export.proofs as N
use N.header.put_names.Goals as goal
use N.{◌∙◌}

pub names-init : goal.names-init
names-init g c = N.NameTexts.names_none (N.ap N.columns_left c.into_iter-column-iterator.ensures.into_iter_gives ∙ c.walk-column-items.ensures.value)
    (omega N.arith)
    c.requires

pub returns-in_err-put_name : goal.returns-in_err-put_name
returns-in_err-put_name g c = N.NameTexts.name_breaks c.in-Some.ensures.steps c.names.invariant c.count-count.ensures.value c.in_err-put_name.ensures
    c.from_residual.ensures.1

pub names-preserved : goal.names-preserved
names-preserved g c = N.NameTexts.names_more c.in-Some.ensures.steps c.names.invariant c.count-count.ensures.value c.in_ok-put_name.ensures
