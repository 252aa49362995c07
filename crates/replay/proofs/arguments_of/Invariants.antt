use Rattle.std.proofs.Common.{◌≡◌, ◌++◌, drop, length}
use Rattle.std.specs.Vec.Iter.{into_iter_items}
use Rattle.replay.proofs.arguments_of.Given as goal

-- what was kept and what is left are all but the first
abbrev pub invariant-loop-argument : goal.invariant-loop-argument
invariant-loop-argument l = drop 1 (into_iter_items l.fn.args) ≡ l.arguments.items ++ into_iter_items l.args

abbrev pub decreases-loop-argument : goal.decreases-loop-argument
decreases-loop-argument l = length (into_iter_items l.args)
