use Rattle.tds_arguments.proofs as N

pub returns : N.options.packet_size.Goals.returns
returns = search N.rules
