-- Pieces of text in UTF-8, one after the other.
use Rattle.tds_csv.proofs as N
use N.{◌≡◌, ◌∙◌, ◌↔◌, ℕ, ◌+◌, ◌-◌, ◌<◌, ◌≤◌, List, [], ◌++◌, length, take, drop, Result, Ok, Err, ap, arith, emit, JoinFault, Odd, BadText, Sink, PushesPiece}
use N.{TakesUpTo, held}
use T.JoiningLemmas.{emits}
use T.OpenTexts.{after_kept}
use T.Utf8Laws.{joins_utf8}
use Rattle.tds_text.specs.Utf8.{Begins, rest, text}
use Rattle.tds_text.proofs as T

-- the answer of a push, by where its piece begins in another one
abbrev pub moved_by : {V : Type 0} → ℕ → Result V JoinFault → Result V JoinFault
moved_by n (Err (BadText k)) = Err (BadText (n + k))
moved_by n (Err (N.Stopped stop)) = Err (N.Stopped stop)
moved_by n (Err Odd) = Err Odd
moved_by n (Ok v) = Ok v

-- bytes that are withheld, and a piece, taken as one
up_to_seam : {kept piece bytes new : List ℕ} {a b : N.SinkView} {k : ℕ} → bytes ≡ kept ++ piece → Begins kept
    → TakesUpTo Begins rest text [] new a b bytes k → TakesUpTo Begins rest text kept new a b piece (k - length kept)
up_to_seam {kept} {k} is begun x =
    let past = after_kept _ _ _ _ is begun x.bad in
    let j = k - length kept in
    let split : k ≡ length kept + j = omega arith in
    let after : k + 1 ≡ length kept + (j + 1) = omega arith in
    grind (arith, N.take-append-add, N.length-append)

-- two parts of a piece, of which the first was taken
halves : (kept part : List ℕ) {mid : List ℕ} (more : List ℕ) → mid ≡ rest (kept ++ part)
    → (emit rest text (kept ++ (part ++ more)) ≡ emit rest text (kept ++ part) ++ emit rest text (mid ++ more))
    × (rest (kept ++ (part ++ more)) ≡ rest (mid ++ more)) × (Begins (kept ++ (part ++ more)) ↔ Begins (mid ++ more))
halves kept part more is =
    let all = kept ++ part in
    rw (is, ← N.append_assoc kept part more) (
      emits T.Utf8Laws.fronts all more,
      T.Utf8Laws.rest-append all more,
      (joins_utf8.inward all more, joins_utf8.outward all more),
    )

-- what is withheld begins a text
pub rest_begins : {new : List ℕ} (bytes : List ℕ) → new ≡ rest bytes → Begins bytes → Begins new
rest_begins bytes is begun = rw (is, ← N.append-nil (rest bytes)) (joins_utf8.inward bytes [] (rw N.append-nil begun))

-- what is withheld, and the rest of a piece whose first bytes were taken
kept_tail : (kept part more mid : List ℕ) (at : ℕ) → mid ≡ rest (kept ++ part) → at + length mid ≡ length part
    → take (length (part ++ more) - at) (drop at (part ++ more)) ≡ mid ++ more
kept_tail = grind (arith, N.length-drop, N.length-append, N.drop-append-add, N.take_all, N.drop-append-le)

module _ {kept mid new : List ℕ} {a b d : N.SinkView} {part : List ℕ} (x : N.TakesPiece Begins rest text kept mid a b part) where
  -- a part of a piece was taken, and then the next bytes
  takes_both : (more : List ℕ) → N.TakesPiece Begins rest text [] new b d (mid ++ more) → N.TakesPiece Begins rest text kept new a d (part ++ more)
  takes_both more y =
      let h = halves kept part more x.withheld in
      record { begun = h.2.1 y.begun; put = rw h.0 (N.Sinks.Puts-trans _ _ _ _ _ x.put y.put); withheld = y.withheld ∙ N.sym h.1 }

  -- and then a byte was bad
  up_to_both : (more : List ℕ) (n : ℕ) → TakesUpTo Begins rest text [] new b d (mid ++ more) (length mid + n)
      → TakesUpTo Begins rest text kept new a d (part ++ more) (length part + n)
  up_to_both more n y =
      let next : (part : List ℕ) → take ((length part + n) + 1) (part ++ more) ≡ part ++ take (n + 1) more =
      λ part. ap (λ k. take k (part ++ more)) {y = length part + (n + 1)} (omega arith) ∙ N.take-append-add part more (n + 1) in
      record {
        within = omega (arith, N.length-append mid more, N.length-append part more);
        good = rw (N.take-append-add part more n) (takes_both (take n more) (rw (N.take-append-add mid more n) at y.good));
        bad = λ begun. y.bad (rw (next mid) ((halves kept part (take (n + 1) more) x.withheld).2.0 (rw (next part) at begun)));
      }

-- a byte was bad in the first bytes of a piece
up_to_first : {kept piece new : List ℕ} {a b : N.SinkView} (n k : ℕ) → n ≤ length piece → TakesUpTo Begins rest text kept new a b (take n piece) k
    → TakesUpTo Begins rest text kept new a b piece k
up_to_first = grind (arith, N.length-take-le, N.take-take)

module _ {W U : Type 0} {contents : W → N.Option (List ℕ)} {a b : Sink W} {kept new : List ℕ} where
  -- bytes that are withheld, and a piece, taken as one up to a bad byte
  pub pushes_seam : {piece bytes : List ℕ} {k : ℕ} → bytes ≡ kept ++ piece → Begins kept
      → PushesPiece {U = U} contents Begins rest text [] new a b bytes (Err (BadText k))
      → PushesPiece {U = U} contents Begins rest text kept new a b piece (Err (BadText (k - length kept)))
  pushes_seam is begun x = record {
    ready = x.ready;
    same = x.same;
    failed = x.failed;
    gives = up_to_seam is begun x.gives;
    begun = x.begun;
    again = grind arith;
  }

  -- a push of the first bytes of a piece failed
  first_gives : (piece : List ℕ) (n : ℕ) (e : JoinFault) → n ≤ length piece → PushesPiece {U = U} contents Begins rest text kept new a b (take n piece) (Err e)
      → N.Pushes {U = U} Begins rest text kept new (held contents a) (held contents b) a.failed piece (Err e)
  first_gives piece n (N.Stopped stop) long x =
      let fixed = rw N.take-append-drop at (halves kept (take n piece) {mid = rest (kept ++ take n piece)} (drop n piece) N.refl).0 in
      λ going. rw fixed (N.Sinks.WritesPrefix-longer _ _ _ _ _ (x.gives going))
  first_gives piece n Odd long x = x.gives
  first_gives piece n (BadText k) long x = up_to_first n k long x.gives

  -- and `?` passed its error on
  pub pushes_passed : {piece : List ℕ} {n : ℕ} {e : JoinFault} {r : Result U JoinFault} → n ≤ length piece → N.IsErrAnd r (λ fault. fault ≡ e)
      → PushesPiece {U = U} contents Begins rest text kept new a b (take n piece) (Err e) → PushesPiece contents Begins rest text kept new a b piece r
  pushes_passed = grind (arith, first_gives)

module _ {W U V : Type 0} {contents : W → N.Option (List ℕ)} {a b d : Sink W} {kept mid new part : List ℕ} {u : U} (more : List ℕ) (at : ℕ)
    (le : at + length mid ≡ length part) (x : PushesPiece contents Begins rest text kept mid a b part (Ok u)) where
  -- the first bytes of a piece were taken, and then what was withheld was pushed with the others
  both_give : (r : Result V JoinFault) → PushesPiece contents Begins rest text [] new b d (mid ++ more) r
      → N.Pushes Begins rest text kept new (held contents a) (held contents d) a.failed (part ++ more) (moved_by at r)
  both_give (Ok v) y = takes_both x.gives more y.gives
  both_give (Err (N.Stopped stop)) y = λ _. rw (halves kept part more x.gives.withheld).0 (N.Sinks.WritesPrefix-after _ _ _ _ _ _ x.gives.put
      (y.gives x.failed))
  both_give (Err Odd) y = y.gives
  both_give (Err (BadText k)) y =
      let past = after_kept mid more _ k N.refl x.begun y.gives.bad in
      let n = k - length mid in
      let here : length mid + n ≡ k = omega arith in
      let there : length part + n ≡ at + k = omega arith in
      rw (← there) (up_to_both x.gives more n (rw here y.gives))

  pushes_both : {r : Result V JoinFault} → PushesPiece contents Begins rest text [] new b d (mid ++ more) r
      → PushesPiece contents Begins rest text kept new a d (part ++ more) (moved_by at r)
  pushes_both = grind (arith, both_give)

-- the first three bytes of a piece were taken, and then what was withheld was pushed with the others
pub pushes_long : {W U V : Type 0} {contents : W → N.Option (List ℕ)} {a b d : Sink W} {kept mid new : List ℕ} {u : U} {r : Result V JoinFault}
    {piece held' : List ℕ} → 3 ≤ length piece → held' ≡ mid → length mid ≤ 3 → PushesPiece contents Begins rest text kept mid a b (take 3 piece) (Ok u)
    → PushesPiece contents Begins rest text [] new b d (take (length piece - (3 - length held')) (drop (3 - length held') piece)) r
    → PushesPiece contents Begins rest text kept new a d piece (moved_by (3 - length held') r)
pushes_long {kept} {mid} {piece} {held'} long same le x y =
    let at = 3 - length held' in
    let whole : at + length mid ≡ length (take 3 piece) = grind arith in
    rw N.take-append-drop at (pushes_both (drop 3 piece) at whole x (rw (rw N.take-append-drop at
    (kept_tail kept (take 3 piece) (drop 3 piece) mid at x.gives.withheld whole)) at y))
