use Rattle.tds_packet.proofs as N
use N.payload.Payload.read_on.Goals as goal
use N.{◌≡◌, ◌∙◌, [], ap, seen}
use N.PayloadLaws.{ends_there}

pub returns-in-Some-clause-gives : goal.returns-in-Some-clause-gives
returns-in-Some-clause-gives g c = search (N.rules, N.Futures.stopped_ends)

pub returns-then-self-clause-gives : goal.returns-then-self-clause-gives
returns-then-self-clause-gives g c =
    let s = c.loop-self.self in
    let none = N.drop_of_length-le s.packet.now.bytes (omega N.arith) in
    rw c.in_payload-stop.ensures (ends_there g.R.Read.remaining c.args.self.now s s c.loop-self.invariant.gives
    (N.Futures.ended_ends g.R.Read.remaining s c.if-self.true c.loop-self.invariant.going none))

pub returns-in_err-advance-clause-gives : goal.returns-in_err-advance-clause-gives
returns-in_err-advance-clause-gives g c =
    N.Passing.passed _ _ _ _ c.from_residual.ensures.1 (ends_there g.R.Read.remaining c.args.self.now c.loop-self.self c.advance.new.self
    c.loop-self.invariant.gives c.in_err-advance.ensures.gives)

pub loop-self-preserved : goal.loop-self-preserved
loop-self-preserved g c = let inv = c.loop-self.invariant in
    let answers = c.in_ok-advance.ensures.payload in
    record {
      sound = answers.answers.sound;
      same = search N.rules;
      lazy = grind N.arith;
      place = cc;
      going = answers.answers.going;
      gives = N.Futures.Takes-trans (seen g.R.Read.remaining c.args.self.now) (seen g.R.Read.remaining c.loop-self.self)
          (seen g.R.Read.remaining c.advance.new.self) [] [] 1 1 (N.le_refl 1) inv.gives c.in_ok-advance.ensures.gives;
    }
