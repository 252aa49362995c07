use Rattle.tds_packet.proofs as N
use N.recutting.write_packets.Goals as goal
use N.{◌+◌, ◌≡◌, ◌∙◌, ◌-◌, sym, ap, arith, seen}

pub loop-to-init : goal.loop-to-init
loop-to-init = grind (arith, N.Recuts.cut_none)

pub returns-in-Ok-true-clause-cuts : goal.returns-in-Ok-true-clause-cuts
returns-in-Ok-true-clause-cuts g c = let inv = c.loop-to.invariant in
    rw (← inv.room) (N.Recuts.cut_finished inv.cutting inv.going.going (grind arith) _ _ _ c.in-Ok-true.field-0-test
    c.in-Ok-true.ensures.body c.place.ensures c.in_ok-all-in-Ok-true.ensures.writes c.finish.ensures)

pub returns-in_err-all-in-Ok-true-clause-cuts : goal.returns-in_err-all-in-Ok-true-clause-cuts
returns-in_err-all-in-Ok-true-clause-cuts g c = let inv = c.loop-to.invariant in
    rw (← inv.room) (N.Recuts.cut_broken inv.cutting inv.going.going (grind arith) _ _ c.from_residual.ensures.1
    c.in-Ok-true.field-0-test c.in-Ok-true.ensures.body c.in_err-all-in-Ok-true.ensures.writes)

pub returns-in_err-done-in-Ok-false-clause-cuts : goal.returns-in_err-done-in-Ok-false-clause-cuts
returns-in_err-done-in-Ok-false-clause-cuts g c = let inv = c.loop-to.invariant in
    rw (← inv.room) (N.Recuts.cut_broken inv.cutting inv.going.going (grind arith) _ _
    c.from_residual-in_err-done-in-Ok-false.ensures.1 c.in-Ok-false.field-0-test c.in-Ok-false.ensures.body c.in_err-done-in-Ok-false.ensures.writes)

pub returns-in-Err-clause-cuts : goal.returns-in-Err-clause-cuts
returns-in-Err-clause-cuts g c = let inv = c.loop-to.invariant in
    rw (← inv.room) (N.inl (N.Recuts.cut_stopped inv.cutting inv.going.going (grind arith) c.in-Err.ensures.body
    c.flush.ensures.bytes c.flush.ensures.ok c.flush.ensures.counted))

pub loop-to-preserved : goal.loop-to-preserved
loop-to-preserved g c = let inv = c.loop-to.invariant in
    let made = c.in-Ok-false.ensures.body in
    let writes = c.in_ok-done-in-Ok-false.ensures.writes in
    let same : c.write_packet-in-Ok-false.new.output.room ≡ c.loop-to.output.room = search N.rules in
    record {
      going = search N.rules;
      same = search N.rules;
      room = same ∙ inv.room;
      few = grind arith;
      short = grind arith;
      cutting = rw same (N.Recuts.cut_more inv.cutting inv.going.going (grind arith) c.in-Ok-false.field-0-test made writes);
    }
