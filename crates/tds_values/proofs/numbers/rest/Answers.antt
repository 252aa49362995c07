use Rattle.tds_values.proofs as N

pub returns-clause-units : N.numbers.rest.Goals.returns-clause-units
returns-clause-units = grind (N.arith, N.TableLemmas.power_at, N.div-add-mod)
