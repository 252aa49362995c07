use Rattle.tds_text.proofs as N
use N.usual.character_of_few.Goals as goal
use N.UsualText.{three_there, two_there}

pub returns-then-first-lt224-clause-next : goal.returns-then-first-lt224-clause-next
returns-then-first-lt224-clause-next c = record {
  within = omega N.arith;
  whole = rw (two_there c.args.bytes.now c.args.at (omega N.arith))
      (grind (N.arith, N.Utf8Laws.two_bytes));
  unquoted = grind (N.arith, two_there);
}

pub returns-clause-next : goal.returns-clause-next
returns-clause-next c = record {
  within = omega N.arith;
  whole = rw (three_there c.args.bytes.now c.args.at (omega N.arith))
      (grind (N.arith, N.Utf8Laws.three_bytes));
  unquoted = grind (N.arith, three_there);
}
