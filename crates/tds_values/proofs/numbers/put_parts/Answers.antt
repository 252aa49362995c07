use Rattle.tds_values.proofs as N
use N.numbers.put_parts.Goals as goal

pub returns-clause-end : goal.returns-clause-end
returns-clause-end c = let long = N.TextLengths.length-whole c.args.magnitude c.args.scale (omega N.arith) (omega N.arith) in grind (N.arith, N.Joining.end_of)

pub returns-clause-written : goal.returns-clause-written
returns-clause-written = grind (N.arith, N.append_assoc, N.DigitLemmas.fraction_rest)
