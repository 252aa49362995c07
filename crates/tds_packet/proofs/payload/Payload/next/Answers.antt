use Rattle.tds_packet.proofs as N

pub returns-clause-between : N.payload.Payload.next.Goals.returns-clause-between
returns-clause-between g c = search (N.rules, N.PayloadLaws.between_of)
