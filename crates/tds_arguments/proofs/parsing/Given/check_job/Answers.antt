use Rattle.tds_arguments.proofs as N

pub returns : N.parsing.Given.check_job.Goals.returns
returns = search N.rules
