-- Calls that put texts, one after another.
use Rattle.tds_csv.proofs as N
use N.{Err, List, Ok, Option, PutsPiece, Result, Sink, Stop, [], arith, false, held, if◌then◌else◌, ℕ, ◌++◌, ◌≡◌}

-- nothing is put
pub PutsPiece-none : {W U : Type 0} (contents : W → Option (List ℕ)) (a : Sink W) (u : U) → N.IsWriting a → PutsPiece contents a a [] (Ok u)
PutsPiece-none contents a u going = let puts = N.Sinks.Puts-none (held contents a) going.ready.2 in grind arith

-- a text, and then what the next call puts
pub PutsPiece-trans : {W U V : Type 0} (contents : W → Option (List ℕ)) (a b c : Sink W) (u : U) (p q : List ℕ) (r : Result V Stop)
    → PutsPiece contents a b p (Ok u) → PutsPiece contents b c q r → PutsPiece contents a c (p ++ q) r
PutsPiece-trans contents a b c u p q (Ok v) x y =
    let puts = N.Sinks.Puts-trans (held contents a) (held contents b) (held contents c) p q x.gives y.gives in
    grind arith
PutsPiece-trans contents a b c u p q (Err e) x y =
    let breaks = N.Sinks.WritesPrefix-after (held contents a) (held contents b) (held contents c) p q e x.gives (y.gives x.failed) in
    grind arith

-- the value of a success says nothing
pub PutsPiece-ok : {W U V : Type 0} {contents : W → Option (List ℕ)} {a b : Sink W} {p : List ℕ} (u : U) (v : V) → PutsPiece contents a b p (Ok u)
    → PutsPiece contents a b p (Ok v)
PutsPiece-ok = grind arith

-- a call that failed, of a longer text
pub PutsPiece-longer : {W U V : Type 0} {contents : W → Option (List ℕ)} {a b : Sink W} (p more : List ℕ) {e : Stop}
    → PutsPiece {U = U} contents a b p (Err e) → PutsPiece {U = V} contents a b (p ++ more) (Err e)
PutsPiece-longer = grind (arith, N.common_steps)

-- `?` passed its error on, of the same text
pub PutsPiece-error : {W U V : Type 0} {contents : W → Option (List ℕ)} {a b : Sink W} {p : List ℕ} {e : Stop} {r : Result V Stop}
    → N.IsErrAnd r (λ stop. stop ≡ e) → PutsPiece {U = U} contents a b p (Err e) → PutsPiece contents a b p r
PutsPiece-error = grind arith

-- and of a longer one
pub PutsPiece-passed : {W U V : Type 0} (contents : W → Option (List ℕ)) (a b : Sink W) (p more : List ℕ) (e : Stop) (r : Result V Stop)
    → N.IsErrAnd r (λ stop. stop ≡ e) → PutsPiece {U = U} contents a b p (Err e) → PutsPiece contents a b (p ++ more) r
PutsPiece-passed = grind (arith, N.common_steps)

-- ---- pushes and ends of a joiner, by what they put

-- what `check` answers where no write failed
pub passes : {T E : Type 0} (failed : N.Bool) (t u : T) (e : E) → Ok t ≡ (if failed then Err e else Ok u) → failed ≡ false
passes N.true t u e h = cc
passes false t u e h = N.refl

module _ {W U V : Type 0} {contents : W → Option (List ℕ)} {begins : List ℕ → Type 0} {rest text : List ℕ → List ℕ} {old new : List ℕ} {a b : Sink W}
    {p piece : List ℕ} where
  -- all was put
  pub pushes_taken : {u : U} {v : V} → a.failed ≡ false → begins (old ++ piece) → begins new → p ≡ N.emit rest text (old ++ piece)
      → new ≡ rest (old ++ piece) → PutsPiece contents a b p (Ok u) → N.PushesPiece contents begins rest text old new a b piece (Ok v)
  pushes_taken = grind arith

  -- the good bytes before a bad one were put
  pub pushes_up_to : {u : U} {k : ℕ} → a.failed ≡ false → begins new → N.TakesUpTo begins rest text old new (held contents a) (held contents b) piece k
      → PutsPiece contents a b p (Ok u) → N.PushesPiece {U = V} contents begins rest text old new a b piece (Err (N.BadText k))
  pushes_up_to = grind arith

  -- a write failed
  pub pushes_stopped : {e : Stop} {r : Result V N.JoinFault} → a.failed ≡ false → begins new → p ≡ N.emit rest text (old ++ piece)
      → PutsPiece {U = U} contents a b p (Err e) → N.IsErrAnd r (λ fault. fault ≡ N.Stopped e) → N.PushesPiece contents begins rest text old new a b piece r
  pushes_stopped = grind arith

-- the text of what was withheld was put
pub ends_whole : {W U V : Type 0} {contents : W → Option (List ℕ)} {unit : ℕ} {fit begins : List ℕ → Type 0} {text : List ℕ
    → List ℕ} {old new : List ℕ} {a b : Sink W} {p : List ℕ} {u : U} {v : V}
    → a.failed ≡ false → fit old → new ≡ [] → (begins old → begins []) → p ≡ text old → PutsPiece contents a b p (Ok u)
    → N.EndsPieces contents unit fit begins text old new a b (Ok v)
ends_whole = grind arith
