use Rattle.tds_packet.proofs as N
use N.payload.Payload.at_end.Goals as goal
use N.{◌<◌}
use N.Futures.{over, not_over}
use N.PayloadLaws.{between_of}

pub returns-in-Ok-clause-tells : goal.returns-in-Ok-clause-tells
returns-in-Ok-clause-tells g c =
    let s = c.ready.new.self in
    let some : 0 < N.length (N.drop s.at s.packet.now.bytes) = omega (N.arith, N.length-drop s.at s.packet.now.bytes, c.in-Ok.ensures.stands) in
    record { over = λ e. cc; more = λ _. not_over g.R.Read.remaining s c.in-Ok.ensures.payload.answers.going some; ready = λ _. some }

pub returns-in-MessageEnded-clause-tells : goal.returns-in-MessageEnded-clause-tells
returns-in-MessageEnded-clause-tells g c =
    let s = record c.ready.new.self { stopped = N.None } in
    let ends = c.in-Err.ensures.ended c.in-MessageEnded.is c.in_default.is in
    record { over = λ _. over g.R.Read.remaining s ends.last N.refl (N.drop_of_length-le s.packet.now.bytes (omega N.arith)); more = λ e. cc; ready = λ e. cc }

pub returns-in-Some-clause-gives : goal.returns-in-Some-clause-gives
returns-in-Some-clause-gives g c = search (N.rules, N.Futures.stopped_ends)

pub returns-in-Ok-clause-between : goal.returns-in-Ok-clause-between
returns-in-Ok-clause-between g c = between_of g.R.Read.remaining c.ready.new.self c.in-Ok.ensures.payload.answers.going

pub returns-in-MessageEnded-clause-between : goal.returns-in-MessageEnded-clause-between
returns-in-MessageEnded-clause-between g c = search (N.rules, between_of)
