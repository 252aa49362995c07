use Rattle.tds_text.proofs as N
use N.{arith, ◌++◌, ◌∙◌}
use N.LaneMasks.{run_most}
use N.windows_1252.take_wide.Goals as goal

pub take_before-requires-clause-stops : goal.take_before-requires-clause-stops
take_before-requires-clause-stops c = omega (arith, run_most N.is_plain _ _ 32 c.requires.wide)

pub returns-clause-most : goal.returns-clause-most
returns-clause-most c = omega (arith, run_most N.is_plain _ _ 32 c.requires.wide)

pub returns-clause-taken : goal.returns-clause-taken
returns-clause-taken c = c.take_before.ensures.taken ∙ N.ap (λ l. N.take c.args.made c.args.to.now ++ l) (N.Singles.wide_lanes _ c.args.at _
    (omega (arith, run_most N.is_plain _ _ 32 c.requires.wide)) (grind arith))
