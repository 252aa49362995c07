use Rattle.tds_export.proofs as N
use N.notice.pass_notice.Goals as goal
use N.{buffered, rules, seen, take, ◌≡◌}
use N.Bodies.{LengthRead}
use Rattle.std.proofs.Common.{drop-drop}
use Rattle.tds_packet.proofs.Futures.{Takes-more}

pub returns-in-Some-clause-gives : goal.returns-in-Some-clause-gives
returns-in-Some-clause-gives g c =
    let remaining = g.R.Read.remaining in
    let before = c.args.payload.now in
    let between = c.consume.new.self in
    let n = c.in-Some.length in
    let rest : buffered between ≡ N.drop 2 c.buffered.result.now = rw (c.consume.ensures.rest, c.buffered.ensures) (search (rules, drop-drop)) in
    let length : LengthRead (take 2 (buffered before)) n (seen remaining before) (seen remaining between) before.place between.place =
    record { two = search rules; is = search rules; takes = search rules; at = search rules } in
    let body = take n (buffered between) in (
      body,
      λ charset room _ _ notice.
          N.Bodies.body_passed charset room notice length c.in-Some.ensures.least body (search rules)
          (Takes-more (seen remaining between) (seen remaining c.consume-in-Some.new.self) body 0 n (omega N.arith) c.consume-in-Some.ensures.gives)
          (search rules) (rw rest c.in-Some.ensures.holds),
    )
