-- What one more token adds to a response.
use Rattle.tds_export.proofs as N
use N.{Bool, Error, List, Metadata, Row, Token, Tracks, [], arith, before, begun, false, first_error, how_many, is_final, more, passed, refl, text_after, true}
use N.{ℕ, ◌++◌, ◌+◌, ◌<◌, ◌∷◌, ◌≡◌}

-- whether a set has begun after these tokens
abbrev pub begun_after : Bool → List Token → Bool
begun_after begun [] = begun
begun_after _ (Metadata bytes columns ∷ ts) = begun_after true ts
begun_after begun (t ∷ ts) = begun_after begun ts

pub text_after-snoc : (begun : Bool) (ts : List Token) (t : Token)
    → text_after begun (ts ++ t ∷ []) ≡ text_after begun ts ++ text_after (begun_after begun ts) (t ∷ [])
text_after-snoc _ [] t = refl
text_after-snoc _ (Metadata bytes columns ∷ ts) t = cc (text_after-snoc true ts t, N.append_assoc _ (text_after true ts) (text_after _ (t ∷ [])))
text_after-snoc begun (Row cells ∷ ts) t = cc (text_after-snoc begun ts t, N.append_assoc _ _ (text_after _ (t ∷ [])))
text_after-snoc begun (u ∷ ts) t = text_after-snoc begun ts t

-- one more text
pub ruleset texts = (N.append-nil, text_after-snoc)

begun_true : (ts : List Token) → begun_after true ts ≡ true
begun_true [] = refl
begun_true (Metadata bytes columns ∷ ts) = begun_true ts
begun_true (u ∷ ts) = begun_true ts

-- a set has begun where there is one
pub begun_where_sets : (ts : List Token) → begun_after false ts ≡ N.nat_lt 0 (how_many N.is_set ts)
begun_where_sets [] = refl
begun_where_sets (Metadata bytes columns ∷ ts) = grind (arith, begun_true)
begun_where_sets (t ∷ ts) = begun_where_sets ts

pub how_many-snoc : (p : Token → Bool) (ts : List Token) (t : Token) → how_many p (ts ++ t ∷ []) ≡ how_many p ts + how_many p (t ∷ [])
how_many-snoc p [] t = omega arith
how_many-snoc p (u ∷ ts) t = grind (arith, how_many-snoc p ts t)

pub uncounted : (p : Token → Bool) (ts : List Token) (t : Token) → how_many p (t ∷ []) ≡ 0 → how_many p (ts ++ t ∷ []) ≡ how_many p ts
uncounted p ts t e = simp (how_many-snoc, e, N.add_none)

-- without an error there is no first one
pub no_errors : (ts : List Token) → how_many N.is_error ts ≡ 0 → first_error ts ≡ N.None
no_errors [] h = refl
no_errors (Error n ∷ ts) h = grind arith
no_errors (u ∷ ts) h = no_errors ts h

-- and the next one is
pub first_next : (ts : List Token) (n : N.Notice) → first_error ts ≡ N.None → first_error (ts ++ Error n ∷ []) ≡ N.Some n
first_next [] n h = refl
first_next (Error m ∷ ts) n h = cc
first_next (u ∷ ts) n h = first_next ts n h

-- after an error none is the first
pub first_stays : (ts us : List Token) → 0 < how_many N.is_error ts → first_error (ts ++ us) ≡ first_error ts
first_stays [] us h = grind arith
first_stays (Error n ∷ ts) us h = refl
first_stays (u ∷ ts) us h = first_stays ts us h

-- where no error is added, the first one is the same
pub same_first : (ts us : List Token) → how_many N.is_error (ts ++ us) ≡ how_many N.is_error ts → first_error (ts ++ us) ≡ first_error ts
same_first [] us h = no_errors us h
same_first (Error n ∷ ts) us h = refl
same_first (u ∷ ts) us h = same_first ts us h

-- the last status of a procedure after more tokens
pub status_after-append : (before : N.Option ℕ) (a b : List Token)
    → N.return_status_after before (a ++ b) ≡ N.return_status_after (N.return_status_after before a) b
status_after-append before [] b = refl
status_after-append before (N.NoMetadata ∷ a) b = status_after-append _ a b
status_after-append before (t ∷ a) b = status_after-append _ a b

pub encoded_after-append : (before : List ℕ) (a b : List Token) → N.encoded_after before (a ++ b) ≡ N.encoded_after (N.encoded_after before a) b
encoded_after-append before [] b = refl
encoded_after-append before (N.NoMetadata ∷ a) b = encoded_after-append _ a b
encoded_after-append before (t ∷ a) b = encoded_after-append _ a b

pub greatest_span-append : (a b : List Token) → N.greatest_span (a ++ b) ≡ N.max (N.greatest_span a) (N.greatest_span b)
greatest_span-append [] b = omega arith
greatest_span-append (t ∷ a) b = omega (arith, greatest_span-append a b)

pub is_final-snoc : (ts : List Token) (t : Token) → is_final (ts ++ t ∷ []) ≡ is_final (t ∷ [])
is_final-snoc [] t = refl
is_final-snoc (u ∷ []) t = refl
is_final-snoc (u ∷ v ∷ ts) t = is_final-snoc (v ∷ ts) t

-- ---- what is tracked, with one more token

-- whether a token has no text and describes nothing
abbrev pub is_bare : Token → Bool
is_bare (Metadata bytes columns) = false
is_bare N.NoMetadata = false
is_bare (Row cells) = false
is_bare t = true

-- A token that has no text and describes nothing.
pub record IsBare (t : Token) : Type 0 where
  pub text : (begun : Bool) → text_after begun (t ∷ []) ≡ []
  pub encoded : (before : List ℕ) → N.encoded_after before (t ∷ []) ≡ before
  pub columns : (before : N.Option (List N.Column)) → N.described_after before (t ∷ []) ≡ before

pub bare : {t : Token} → is_bare t ≡ true → IsBare t
bare = grind arith

-- tokens with a body are so
pub bare_body : (which : N.Bodied) (body : List ℕ) → is_bare (N.bodied which body) ≡ true
bare_body = grind arith

-- and those with fields of a fixed length
pub bare_fixed : (which : N.Fixed) (fields : List ℕ) → is_bare (N.fixed which fields) ≡ true
bare_fixed = grind arith

-- whether the report has nothing of a token
abbrev is_quiet : Token → Bool
is_quiet (N.PassedOver passed body) = true
is_quiet (N.Done more) = true
is_quiet (N.DoneInProc more) = true
is_quiet t = false

-- with so many rows more
abbrev pub with_rows : N.Progress → ℕ → N.Progress
with_rows s n = record s { report = record s.report { rows = s.report.rows + n } }

-- what more tokens change
pub ruleset tracked = (N.ResponseLaws.described_after-append, encoded_after-append, how_many-snoc, is_final-snoc, same_first, status_after-append, uncounted)

module _ {s : N.Progress} {ts : List Token} (k : N.Reflects s ts false) where
  pub tracks_quiet : (t : Token) {final : Bool} → is_quiet t ≡ true → final ≡ is_final (t ∷ []) → Tracks (record s { is_final = final }) (ts ++ t ∷ [])
  tracks_quiet = grind (arith, tracked)

  pub tracks_body : (which : N.Bodied) (body : List ℕ) → N.is_notice which ≡ false → Tracks s (ts ++ N.bodied which body ∷ [])
  tracks_body (N.APassed passed) _ h = tracks_quiet _ refl k.final
  tracks_body _ _ h = cc

  pub tracks_row : (cells : List N.Cell) → Tracks (with_rows s 1) (ts ++ Row cells ∷ [])
  tracks_row = grind (arith, tracked)

  -- ---- ERROR and INFO

  pub tracks_error : (n : N.Notice) {first : N.Option N.ServerError} → first ≡ N.option_map N.server_error (first_error (ts ++ Error n ∷ []))
      → Tracks (record s { report = record s.report { errors = s.report.errors + 1; first_error = first } }) (ts ++ Error n ∷ [])
  tracks_error = grind (arith, tracked)
