-- Texts that are gathered and written to the notes one after the other.
use Rattle.tds_replay.proofs.Words as N
use N.{◌≡◌, ◌+◌, ◌<◌, ℕ, List, [], ◌∷◌, ◌++◌, Option, Result, Ok, Err, Counted, text_of, Says, length}

-- counts of failures stay over both texts, or rise in the second
stays_then : {a b c : ℕ} (xs ys : List ℕ) → N.Stays a b xs → N.Stays b c ys → N.Stays a c (xs ++ ys)
stays_then xs ys first more = grind (N.arith, N.length-append)

rises_then : {a b c : ℕ} (xs ys : List ℕ) → N.Stays a b xs → N.Rises b c ys → N.Rises a c (xs ++ ys)
rises_then xs ys first more = grind (N.arith, N.length-append)

-- a text was written, and a write of another failed
fails_then : {M : Type 0} (contents : M → Option (List ℕ)) (old mid new : Counted M) (a b : List ℕ) → N.WritesText contents old mid a
    → N.FailsToSay contents mid new b → N.FailsToSay contents old new (a ++ b)
fails_then contents old mid new a b first fails = record {
  taken = length a + fails.taken;
  part = rw (N.length-append a b) (omega (N.arith, fails.part));
  writes = rw (N.take-append-add a b fails.taken)
      (N.Appends-trans (contents old.device) (contents mid.device) (contents new.device) a (N.take fails.taken b) first.0 fails.writes);
  counted = rw (N.take-append-add a b fails.taken) (rises_then a (N.take fails.taken b) first.1 fails.counted);
}

-- a text was written, and then another, or not
pub says_then : {M U : Type 0} (contents : M → Option (List ℕ)) (old mid new : Counted M) (a b : List ℕ) → N.WritesText contents old mid a
    → (r : Result U N.NoteFailed) → Says contents mid new b r → Says contents old new (a ++ b) r
says_then contents old mid new a b first (Ok x) says =
    (N.Appends-trans (contents old.device) (contents mid.device) (contents new.device) a b first.0 says.0, stays_then a b first.1 says.1)
says_then contents old mid new a b first (Err x) says = fails_then contents old mid new a b first says

-- a write that failed in a text failed in all of what comes with it
pub fails_in : {M : Type 0} {contents : M → Option (List ℕ)} {old new : Counted M} {text : List ℕ} (more : List ℕ) → N.FailsToSay contents old new text
    → N.FailsToSay contents old new (text ++ more)
fails_in {text = text} more x =
    let same = N.take-append-le x.taken text more (omega (N.arith, x.part)) in
    record {
      taken = x.taken;
      part = rw (N.length-append text more) (omega (N.arith, x.part));
      writes = rw same x.writes;
      counted = rw same x.counted;
    }

module _ {M : Type 0} {contents : M → Option (List ℕ)} {old mid new : Counted M} {had between a : List ℕ} (first : N.AddsText contents old mid had between a)
    (b : List ℕ) where
  -- a text was gathered, and a write failed in what comes next
  pub fails_after : N.FailsToSay contents mid new (between ++ b) → N.FailsToSay contents old new (had ++ (a ++ b))
  fails_after fails =
      let joined : first.sent ++ (between ++ b) ≡ had ++ (a ++ b) = rw (← N.append_assoc first.sent between b, ← first.rest) (N.append_assoc had a b) in
      rw joined at (fails_then contents old mid new first.sent (between ++ b) first.writes fails)

  -- the same, of more text
  pub fails_before : (more : List ℕ) → N.FailsToSay contents mid new (between ++ b) → N.FailsToSay contents old new (had ++ (a ++ (b ++ more)))
  fails_before more fails = rw (N.append_assoc had (a ++ b) more, N.append_assoc a b more) at (fails_in more (fails_after fails))

-- a text was gathered, and then another, or not
pub gathers_then : {M U : Type 0} {contents : M → Option (List ℕ)} {old mid : Counted M} {had between a : List ℕ} (new : Counted M) (has b : List ℕ)
    → N.AddsText contents old mid had between a → (r : Result U N.NoteFailed) → N.Gathers contents mid new between has b r
    → N.Gathers contents old new had has (a ++ b) r
gathers_then {contents} {old} {mid} new has b first (Ok x) more =
    let both = says_then contents old mid new first.sent more.sent first.writes (Ok x) more.writes in
    record { sent = first.sent ++ more.sent; writes = both; rest = grind (N.arith, N.append_assoc) }
gathers_then new has b first (Err x) more = fails_after first b more

-- a write failed in what comes first of a text
pub fails_first : {M : Type 0} {contents : M → Option (List ℕ)} {old new : Counted M} (had text more : List ℕ) → N.FailsToSay contents old new (had ++ text)
    → N.FailsToSay contents old new (had ++ (text ++ more))
fails_first had text more fails = rw (N.append_assoc had text more) at (fails_in more fails)

-- what `?` passes on is that a write failed
pub gathers_none : {M U : Type 0} {contents : M → Option (List ℕ)} {old new : Counted M} (had has text : List ℕ) {e : N.NoteFailed}
    (r : Result U N.NoteFailed) → N.IsErrAnd r (λ x. x ≡ e) → N.FailsToSay contents old new (had ++ text) → N.Gathers contents old new had has text r
gathers_none had has text (Ok x) is fails = absurd is
gathers_none had has text (Err x) is fails = fails

-- what was gathered, and nothing before it, is written, or not
pub says_gathered : {M U : Type 0} {contents : M → Option (List ℕ)} {old mid : Counted M} {had held has text : List ℕ} (new : Counted M) → had ≡ []
    → held ≡ has → N.AddsText contents old mid had has text → (r : Result U N.NoteFailed) → Says contents mid new held r → Says contents old new text r
says_gathered {contents} {old} {mid} {had} {held} {has} {text} new none is first r says =
    rw none at (rw (← first.rest) at (says_then contents old mid new first.sent has first.writes r (rw is at says)))

pub adds_none : {M U : Type 0} (contents : M → Option (List ℕ)) (old mid new : Counted M) (had has text : List ℕ) → has ≡ [] → N.WritesText contents old mid had
    → (r : Result U N.NoteFailed) → Says contents mid new text r → N.Gathers contents old new had has text r
adds_none contents old mid new had has text none writes (Ok x) says = record {
  sent = had ++ text;
  writes = says_then contents old mid new had text writes (Ok x) says;
  rest = rw (none, N.append-nil) N.refl;
}
adds_none contents old mid new had has text none writes (Err x) says = fails_then contents old mid new had text writes says

-- a call that failed left what it promises of a failure
pub on_err : {U E P : Type 0} (r : Result U E) → N.is_ok r ≡ N.false → N.OnErr r P → P
on_err (Ok x) failed p = absurd (cc)
on_err (Err x) failed p = p

-- the text of one piece more
pub text_of-more : (pieces : List N.Piece) (i : ℕ) (d : N.Piece) → i < N.length pieces
    → text_of (N.take i pieces) ++ N.piece_text (N.get_or pieces i d) ≡ text_of (N.take (i + 1) pieces)
text_of-more pieces i d within = rw (N.take_more pieces i d within, N.flat_map-append, N.append-nil)

-- one piece between those before it and those after it
pub text_of-around : (pieces : List N.Piece) (i : ℕ) (d : N.Piece) → i < length pieces
    → text_of (N.take i pieces) ++ (N.piece_text (N.get_or pieces i d) ++ text_of (N.drop (i + 1) pieces)) ≡ text_of pieces
text_of-around pieces i d within =
    rw (
      ← N.append_assoc (text_of (N.take i pieces)) (N.piece_text (N.get_or pieces i d)) (text_of (N.drop (i + 1) pieces)),
      text_of-more pieces i d within,
      ← N.flat_map-append,
      N.take-append-drop,
    ) N.refl

-- four texts before two more
pub four_first : (a b c d e f : List ℕ) → N.concat (a ∷ b ∷ c ∷ d ∷ []) ++ (e ++ f) ≡ a ++ (b ++ (c ++ (d ++ (e ++ f))))
four_first a b c d e f = simp (N.append_assoc, N.append-nil)

-- nothing is gathered for no text
pub nothing_gathered : {M : Type 0} (contents : M → Option (List ℕ)) (notes : Counted M) (had t : List ℕ) → t ≡ [] → N.AddsText contents notes notes had had t
nothing_gathered contents notes had t none =
    record { sent = []; writes = (N.Appends-nil (contents notes.device), grind N.arith); rest = rw (none, N.append-nil) N.refl }
