use Rattle.tds_values.proofs as N

pub returns : N.digits.four_digits.Goals.returns
returns = grind (N.arith, N.TableLemmas.four_at)
