use Rattle.tds_export.proofs as N
use N.header.write_header.Goals as goal
use N.{◌-◌}
use borrow.Rule.Slice.PartMut.{same_len_mid}

pub names-init : goal.names-init
names-init c = record {
  names = record { done = N.[]; split = search N.rules; index_is = N.refl };
  same = search N.rules;
  within = search N.rules;
  text = grind (N.arith, N.common_steps);
}

pub names-preserved : goal.names-preserved
names-preserved c =
    let l = c.names in
    N.NameTexts.name_written c.write_name-made.new.to _ c.in-Some.ensures.steps l.invariant c.count-count.ensures.value (search N.arith)
    (same_len_mid l.made (N.length l.to - l.made) l.to c.write_name-made.new.to (search N.arith)) c.write_name-made.ensures.text
