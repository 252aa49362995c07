use Rattle.tds_values.proofs as N
use N.{◌∙◌}
use Rattle.tds_values.specs.declared.kind.Kind.TheVariants as kinds

pub returns-in-Decimal : N.write.write_any.Goals.returns-in-Decimal
returns-in-Decimal g c = rw c.in-Decimal.is (c.write_decimal.ensures c.in-Decimal.precision)

pub returns-in-DateTimeOffset-eq7 : N.write.write_any.Goals.returns-in-DateTimeOffset-eq7
returns-in-DateTimeOffset-eq7 g c =
    let is = c.in-DateTimeOffset-eq7.is ∙ N.ap kinds.DateTimeOffset (N.sym c.in-DateTimeOffset-eq7.field-0-is ∙ c.in-DateTimeOffset-eq7.field-0-test) in
    grind (N.arith, N.WrittenLemmas.written_as)
