-- What becomes of an area whose last bytes are lent.
use Rattle.std.specs.Prelude.{ℕ, List, ◌++◌, length, take, drop}
use Rattle.std.specs.Borrow.{Lends, MutBor, Fml, Array, u8}
use Rattle.tds_meter.specs.Space.{Space, appended, holding}
use Rattle.tds_meter.specs.contracts.area.Area.{the_row}

-- a list with others written over its items from a place on, as far as it goes
abbrev pub overwritten : ℕ → List ℕ → List ℕ → List ℕ
overwritten from written xs = take (length xs) (take from xs ++ (written ++ drop (length written) (drop from xs)))

-- the bytes from a place on written over
abbrev pub with_tail : Space → ℕ → List ℕ → Space
with_tail s from written = holding s (overwritten from written s.bytes)

-- The area ends as what comes before a place, and what the lent bytes end as.
abbrev pub LendsTail : MutBor Space → ℕ → MutBor (List ℕ) → Fml
LendsTail s from r = Lends the_row (Array u8 0) s r (with_tail s.now from)

-- The area ends as its own bytes and what the lent ones after them end as.
abbrev pub LendsNew : MutBor Space → MutBor (List ℕ) → Fml
LendsNew s r = Lends the_row (Array u8 0) s r (with_tail (appended s.now r.now) (length s.now.bytes))
