use Rattle.tds_values.proofs as N
use N.front.write_front.Goals as goal
use N.{ap, arith, sym, ◌∙◌}
use Rattle.tds_values.specs.declared.kind.Kind.TheVariants as kinds

pub returns-in_ok-value-in-Decimal-clause-text : goal.returns-in_ok-value-in-Decimal-clause-text
returns-in_ok-value-in-Decimal-clause-text g c =
    let x = c.write_decimal.ensures c.in-Decimal.precision in
    grind (arith, c.in-Decimal.is)

pub returns-in_ok-counted-in-DateTimeOffset-eq0-clause-text : goal.returns-in_ok-counted-in-DateTimeOffset-eq0-clause-text
returns-in_ok-counted-in-DateTimeOffset-eq0-clause-text g c =
    let is = c.in-DateTimeOffset-eq0.is ∙ ap kinds.DateTimeOffset (sym c.in-DateTimeOffset-eq0.field-0-is ∙ c.in-DateTimeOffset-eq0.field-0-test) in
    grind (arith, is)

pub returns-in_ok-counted-in-DateTimeOffset-eq3-clause-text : goal.returns-in_ok-counted-in-DateTimeOffset-eq3-clause-text
returns-in_ok-counted-in-DateTimeOffset-eq3-clause-text g c =
    let is = c.in-DateTimeOffset-eq3.is ∙ ap kinds.DateTimeOffset (sym c.in-DateTimeOffset-eq3.field-0-is ∙ c.in-DateTimeOffset-eq3.field-0-test) in
    grind (arith, is)

pub returns-in_ok-counted-in-DateTimeOffset-eq7-clause-text : goal.returns-in_ok-counted-in-DateTimeOffset-eq7-clause-text
returns-in_ok-counted-in-DateTimeOffset-eq7-clause-text g c =
    let is = c.in-DateTimeOffset-eq7.is ∙ ap kinds.DateTimeOffset (sym c.in-DateTimeOffset-eq7.field-0-is ∙ c.in-DateTimeOffset-eq7.field-0-test) in
    grind (arith, is)

pub returns-in_ok-value-in-DateTimeOffset-clause-text : goal.returns-in_ok-value-in-DateTimeOffset-clause-text
returns-in_ok-value-in-DateTimeOffset-clause-text g c = grind (arith, c.in-DateTimeOffset.is)
