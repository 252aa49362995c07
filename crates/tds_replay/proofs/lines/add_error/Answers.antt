use Rattle.tds_replay.proofs.Words as N
use Rattle.tds_replay.proofs.lines.add_error.Goals as goal
use Rattle.tds_replay.specs.Lines.{error_line}
use Rattle.tds_replay.proofs.Sayings.{nothing_gathered}
use N.{w32}

pub returns-in_default : goal.returns-in_default
unfolding error_line
returns-in_default g c = nothing_gathered _ _ _ _ (N.ap (λ e. error_line e c.args.message.now) c.in_default.is)

pub returns : goal.returns
unfolding error_line
returns g c =
    let number : N.SFits w32 c.in-Some.error.number = search N.rules in
    let line : N.SFits w32 c.in-Some.error.line = search N.rules in
    rw (
      c.in-Some.is,
      ← c.shown-text.ensures,
      ← c.as_slice.ensures.value,
      ← c.from.ensures,
      ← c.from-2.ensures,
      ← N.to_z-of_z w32 c.in-Some.error.number number,
      ← N.to_z-of_z w32 c.in-Some.error.line line,
    ) c.gather_all.ensures
