use Rattle.tds_replay.proofs.lines.add_values.Goals as goal
use Rattle.std.proofs.lemmas.Bool.{ne_eqb}
use Rattle.tds_replay.proofs.Sayings.{nothing_gathered}
use Rattle.tds_replay.specs.Lines.{values_line}

pub returns-then-values-eq0 : goal.returns-then-values-eq0
unfolding values_line
returns-then-values-eq0 g c = nothing_gathered _ _ _ _ (rw c.if-values-eq0.true)

pub returns : goal.returns
unfolding values_line
returns g c = rw (ne_eqb c.args.values 0 c.if-values-eq0.false) c.gather_all.ensures
