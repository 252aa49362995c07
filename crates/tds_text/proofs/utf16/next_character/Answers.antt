use Rattle.tds_text.proofs as N
use N.utf16.next_character.Goals as goal
use N.{sym, arith}
use N.Utf16Steps.{alone_at, lone_other, one_at, pair_at}

pub returns-then-bytes-at-lt2-clause-gives : goal.returns-then-bytes-at-lt2-clause-gives
returns-then-bytes-at-lt2-clause-gives c = let left = N.length-drop c.args.at c.args.bytes.now in grind arith

pub returns-then-not-is_surrogate-clause-gives : goal.returns-then-not-is_surrogate-clause-gives
returns-then-not-is_surrogate-clause-gives c =
    let none = N.or_parts (N.is_high_surrogate c.unit-first.result) (N.is_low_surrogate c.unit-first.result) (sym c.if-not-is_surrogate.ensures) in
    one_at c.args.bytes.now _ (omega arith) c.unit-first.ensures.value none.0 (lone_other _ none.0 none.1)

pub returns-then-is_low-clause-gives : goal.returns-then-is_low-clause-gives
returns-then-is_low-clause-gives c = one_at c.args.bytes.now _ (omega arith) c.unit-first.ensures.value
    (grind arith) (grind arith)

pub returns-then-not-is_low-clause-gives : goal.returns-then-not-is_low-clause-gives
returns-then-not-is_low-clause-gives c = alone_at c.args.bytes.now _ (omega arith) c.unit-first.ensures.value c.unit-second.ensures.value
    (grind arith) (sym c.if-not-is_low.ensures)

pub returns-clause-gives : goal.returns-clause-gives
returns-clause-gives c = pair_at c.args.bytes.now _ (omega arith) c.unit-first.ensures.value c.unit-second.ensures.value
    (grind arith) (sym c.if-not-is_low.ensures)
