use N.recutting.gather_packet.Goals as goal
use Rattle.tds_packet.proofs as N
use N.{◌≡◌, ◌∙◌, ◌+◌, ◌-◌, ◌++◌, length, rules, arith}

pub returns-in_err-at_end-clause-body : goal.returns-in_err-at_end-clause-body
returns-in_err-at_end-clause-body g c = N.Recuts.gathered_err _ c.loop-payload.invariant.body c.from_residual.ensures.1 c.in_err-at_end.ensures.gives
    (grind arith)

pub returns-then-n-eq0-clause-body : goal.returns-then-n-eq0-clause-body
returns-then-n-eq0-clause-body g c = N.Recuts.gathered_ok _ c.loop-payload.invariant.body c.in_ok-at_end.ensures.gives
    c.in_ok-at_end.ensures.payload.place c.in_ok-at_end.ensures.between (λ e. cc) (grind arith)

pub returns-clause-body : goal.returns-clause-body
returns-clause-body g c = N.Recuts.gathered_ok _ c.loop-payload.invariant.body c.in_ok-at_end.ensures.gives
    c.in_ok-at_end.ensures.payload.place c.in_ok-at_end.ensures.between (grind arith) (λ e. cc)

pub loop-payload-preserved : goal.loop-payload-preserved
loop-payload-preserved g c = let t = c.at_end.new.self in
    let packet = c.loop-payload.output.bytes in
    let inv = c.loop-payload.invariant in
    let n = c.min-n.result in
    let piece = N.take n (N.buffered t) in
    let up : n ≡ N.min (length (N.buffered t)) (c.loop-payload.output.room - length packet) = search rules in
    let len = N.length-take-le n (N.buffered t) (omega arith) in
    let grown : c.append.new.self.bytes ≡ packet ++ piece = grind arith in
    let room : c.append.new.self.room ≡ c.loop-payload.output.room = search rules in
    record {
      going = search rules;
      same = search rules;
      room = room ∙ inv.room;
      body = rw grown (N.Recuts.gathered_more t inv.body c.in_ok-at_end.ensures.gives c.in_ok-at_end.ensures.payload.place _ c.consume.ensures.gives
          (grind arith) (grind arith));
    }
