-- What was put into a sink, call after call.
use Rattle.tds_csv.proofs as N
use N.{◌≡◌, ℕ, ◌+◌, ◌-◌, ◌^◌, ◌<◌, ◌≤◌, List, [], ◌++◌, length, arith, Stop, SinkView, Adds, Puts, WritesPrefix}
use Rattle.tds_packet.proofs.Joins.{Stays-Rises, Stays-none, Stays-trans}

pub counted-twice : (n k l : ℕ) → N.counted (N.counted n k) l ≡ N.counted n (k + l)
counted-twice = omega arith

pub Adds-trans : (a b c : SinkView) (d f p q : List ℕ) → Adds a b d p → Adds b c f q → Adds a c (d ++ f) (p ++ q)
Adds-trans = grind (arith, N.append_assoc, N.length-append)

pub Puts-none : (a : SinkView) → a.delivered ≤ 2 ^ 64 - 1 → Puts a a []
Puts-none a h = ([], 0, grind (arith, N.append-nil), N.refl, Stays-none a.failures)

pub Puts-trans : (a b c : SinkView) (p q : List ℕ) → Puts a b p → Puts b c q → Puts a c (p ++ q)
Puts-trans a b c p q x y = (x.0 ++ y.0, x.1 + y.1, Adds-trans a b c _ _ _ _ x.2 y.2, omega (arith, N.length-append x.0 y.0), Stays-trans _ _ _ x.0 y.0 x.4 y.4)

pub WritesPrefix-after : (a b c : SinkView) (p q : List ℕ) (e : Stop) → Puts a b p → WritesPrefix b c q e → WritesPrefix a c (p ++ q) e
WritesPrefix-after a b c p q e x y =
    let len = N.length-append x.0 y.0 in (
      x.0 ++ y.0,
      x.1 + y.1,
      length p + y.2,
      (rw (← N.take-append-add p q y.2) at (Adds-trans a b c _ _ p (N.take y.2 q) x.2 y.3)),
      omega (arith, N.length-append p q),
      omega arith,
      omega arith,
      omega arith,
      y.8,
      Stays-Rises x.0 y.0 x.4 y.9,
    )

pub WritesPrefix-longer : (a b : SinkView) (p more : List ℕ) (e : Stop) → WritesPrefix a b p e → WritesPrefix a b (p ++ more) e
WritesPrefix-longer = grind (arith, N.take-append-le, N.length-append)

-- a block became full, and was delivered, or not
pub block : {U : Type 0} (a m b : SinkView) (piece : List ℕ) (r : N.Result U Stop) → m ≡ record a { waiting = a.waiting ++ piece } → length m.waiting ≡ 4096
    → N.OnErr r (0 < length b.waiting)
    → N.MatchResult r (λ _. N.Sends m b) (λ e. N.FinishFails m b e) → N.MatchResult r (λ _. Puts a b piece) (λ e. WritesPrefix a b piece e)
block = grind (arith, N.append-nil, N.length-append, N.take_all)

pub block_going : {U : Type 0} (a m b : SinkView) (piece : List ℕ) (r : N.Result U Stop) (failed : N.Bool) → m ≡ record a { waiting = a.waiting ++ piece }
    → length m.waiting ≡ 4096 → N.OnErr r (0 < length b.waiting)
    → N.MatchResult r (λ _. N.Sends m b) (λ e. N.FinishFails m b e) → N.MatchResult r (λ _. Puts a b piece) (λ e. failed ≡ N.false → WritesPrefix a b piece e)
block_going = grind (arith, N.common_steps)
