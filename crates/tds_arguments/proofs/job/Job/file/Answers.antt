use Rattle.tds_arguments.proofs as N

pub returns : N.job.Job.file.Goals.returns
returns = search N.rules
