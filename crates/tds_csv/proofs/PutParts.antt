-- Text that is put a part after the other.
use Rattle.tds_csv.proofs as N
use N.{Err, List, Ok, PutsPiece, Sink, Stop, [], drop, emit, take, ℕ, ◌++◌, ◌+◌, ◌-◌, ◌≡◌, ◌≤◌}
use N.Puttings.{PutsPiece-trans}
use Rattle.tds_text.proofs as T
use Rattle.std.proofs.lemmas.List.{drop-drop}
use Rattle.tds_text.specs.Utf16 as utf16

-- ---- data whose bytes each stand alone, a run after the other

module _ (text : List ℕ → List ℕ) (appends : (x y : List ℕ) → text (x ++ y) ≡ text x ++ text y) where
  module _ {W U V : Type 0} {contents : W → N.Option (List ℕ)} {a b d : Sink W} {u : U} (t e : ℕ) (xs : List ℕ) (h : t ≤ e)
      (p : PutsPiece contents a b (text (take t xs)) (Ok u)) where
    -- one more run was put
    pub puts_more : {v : V} → PutsPiece contents b d (text (take (e - t) (drop t xs))) (Ok v) → PutsPiece contents a d (text (take e xs)) (Ok v)
    puts_more q = rw (T.Singles.runs text appends t e xs h) at (PutsPiece-trans _ _ _ _ _ _ _ _ p q)

    -- a write failed in the next run
    pub puts_break : {T : Type 0} {stop : Stop} {r : N.Result T Stop} → PutsPiece {U = V} contents b d (text (take (e - t) (drop t xs))) (Err stop)
        → N.IsErrAnd r (λ s. s ≡ stop) → PutsPiece contents a d (text xs) r
    puts_break q passed = rw (T.Singles.runs text appends t e xs h, ← appends (take e xs) (drop e xs), N.take-append-drop) at
        (N.Puttings.PutsPiece-passed _ _ _ _ (text (drop e xs)) _ _ passed (PutsPiece-trans _ _ _ _ _ _ _ _ p q))

  -- so many of the others were put
  pub puts_some : {W U V T : Type 0} {contents : W → N.Option (List ℕ)} {a b d : Sink W} {u : U} {v : V} {w : T} (t e n : ℕ) (xs : List ℕ) → n ≤ e - t
      → PutsPiece contents a b (text (take t xs)) (Ok u) → PutsPiece contents b d (text (take n (take (e - t) (drop t xs)))) (Ok v)
      → PutsPiece contents a d (text (take (t + n) xs)) (Ok w)
  puts_some t e n xs few p q = N.Puttings.PutsPiece-ok _ _ (rw (
    N.take-take n (e - t) (drop t xs) few,
    ← appends (take t xs) (take n (drop t xs)),
    ← N.take-add t n xs,
  ) at (PutsPiece-trans _ _ _ _ _ _ _ _ p q))

  -- some of them are all of it, as far as a write failed
  pub puts_less : {W U V : Type 0} {contents : W → N.Option (List ℕ)} {a d : Sink W} {stop : Stop} (n : ℕ) (xs : List ℕ)
      → PutsPiece {U = U} contents a d (text (take n xs)) (Err stop) → PutsPiece {U = V} contents a d (text xs) (Err stop)
  puts_less {V} n xs p = rw (← appends (take n xs) (drop n xs), N.take-append-drop) at (N.Puttings.PutsPiece-longer {V = V} _ (text (drop n xs)) p)

-- ---- the fixed text of some bytes

module _ {rest text : List ℕ → List ℕ} where
  -- the part before was put, and then what follows was, or a write of it failed
  pub puts_whole : {W U V : Type 0} {contents : W → N.Option (List ℕ)} {a b d : Sink W} {xs ys p : List ℕ} {u : U} {r : N.Result V Stop}
      → N.Leads rest text xs ys p → PutsPiece contents a b p (Ok u) → PutsPiece contents b d (emit rest text ys) r
      → PutsPiece contents a d (emit rest text xs) r
  puts_whole l x y = rw l.emits (PutsPiece-trans _ _ _ _ _ _ _ _ x y)

  -- so were the first of the bytes that follow, so many
  pub puts_on : {W : Type 0} {contents : W → N.Option (List ℕ)} {a b d : Sink W} {xs : List ℕ} (bytes : List ℕ) (at n : ℕ)
      → (p : List ℕ) × PutsPiece contents a b p (Ok (tt {0})) × N.Leads rest text xs (drop at bytes) p
      → (q : List ℕ) × PutsPiece contents b d q (Ok (tt {0}))
      × N.Leads rest text (take (N.length bytes - at) (drop at bytes)) (drop n (take (N.length bytes - at) (drop at bytes))) q
      → (r : List ℕ) × PutsPiece contents a d r (Ok (tt {0})) × N.Leads rest text xs (drop (at + n) bytes) r
  puts_on bytes at n x y = (
    x.0 ++ y.0,
    PutsPiece-trans _ _ _ _ tt _ _ (Ok tt) x.1 y.1,
    T.JoiningLemmas.Leads-trans x.2 (rw (T.UsualText.rest_of, drop-drop) at y.2),
  )

  -- a write failed in the part before
  pub puts_part : {W U : Type 0} {contents : W → N.Option (List ℕ)} {a b : Sink W} {xs ys p : List ℕ} {e : Stop} → N.Leads rest text xs ys p
      → PutsPiece {U = U} contents a b p (Err e) → PutsPiece {U = U} contents a b (emit rest text xs) (Err e)
  puts_part l x = rw l.emits (N.Puttings.PutsPiece-longer _ _ x)

-- nothing is withheld
pub none_put : {W : Type 0} {contents : W → N.Option (List ℕ)} {a : Sink W} {kept : List ℕ} (piece : List ℕ) → kept ≡ [] → N.IsWriting a
    → PutsPiece {U = ℕ} contents a a (emit utf16.rest utf16.text (N.seam kept piece)) (Ok 0)
none_put piece none going = rw (none, T.Utf16Steps.text_nil) (N.Puttings.PutsPiece-none _ _ 0 going)
