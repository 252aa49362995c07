use Rattle.std.proofs.Common.{inl}
use Rattle.replay.proofs.Running.{performs_over}
use Rattle.replay.proofs.run_from.Goals as goal

pub returns : goal.returns
returns g c = inl (performs_over c.new.result c.perform_in.new.from c.new-to.result c.perform_in.new.to
    c.in-Ok.ensures.inner c.in-Ok.ensures.empty c.in-Ok.ensures.capacity c.new.ensures c.new-to.ensures c.work.ensures c.perform_in.ensures.performs)
