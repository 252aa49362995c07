use Rattle.tds_arguments.proofs as N

pub returns-in_default-kind : N.parsing.usage_of.Goals.returns-in_default-kind
returns-in_default-kind = search N.rules
