use Rattle.tds_packet.proofs as N
use N.payload.Payload.consume.Goals as goal
use N.PayloadLaws.{between_of, pass_takes}

pub returns-clause-gives : goal.returns-clause-gives
returns-clause-gives g c = pass_takes g.R.Read.remaining c.args.self.now N.refl c.requires.sound.used_up c.requires.within

pub returns-clause-between : goal.returns-clause-between
returns-clause-between g c = search (N.rules, between_of)
