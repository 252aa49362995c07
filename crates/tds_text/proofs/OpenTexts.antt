-- The text of data that is still open, by the name of its conversion.
use Rattle.tds_text.proofs as N
use N.{List, arith, emit, length, refl, ℕ, [], ◌%◌, ◌++◌, ◌+◌, ◌-◌, ◌∷◌, ◌≡◌, ◌≤◌}
use N.JoiningLemmas.{emit-front}
use N.Utf16Laws as utf16_laws
use N.Utf8Laws as utf8_laws
use Rattle.tds_text.specs.Utf8 as utf8

-- the bad byte is after what is withheld
pub after_kept : (kept piece bytes : List ℕ) (k : ℕ) → bytes ≡ kept ++ piece → utf8.Begins kept → (utf8.Begins (N.take (k + 1) bytes) → ⊥) → length kept ≤ k
after_kept kept piece bytes k is begun bad = elim (N.cases_lt k (length kept)) [
  | N.inl before ↦ absurd (bad (rw (is, N.take-append-le (k + 1) kept piece (omega arith))
      (N.Utf8Laws.joins_utf8.front _ (N.drop (k + 1) kept) (rw N.take-append-drop begun))))
  | N.inr after ↦ after
]

-- The first bytes of the piece, so many, may follow the old ones, and the text that is fixed then is that which the whole piece fixes.
pub record BegunFront (c : N.Conversion) (old piece : List ℕ) : Type 0 where
  pub taken : ℕ
  pub within : taken ≤ length piece
  pub begun : N.BeginsData c (old ++ N.take taken piece)
  pub same : emit (N.conversion_rest c) (N.conversion_text c) (old ++ N.take taken piece) ≡ emit (N.conversion_rest c) (N.conversion_text c) (old ++ piece)

all_begun : (c : N.Conversion) (old piece : List ℕ) → N.BeginsData c (old ++ piece) → BegunFront c old piece
all_begun = grind (arith, N.take_all)

-- a byte of the piece is bad
stopped_front : (old piece : List ℕ) {whole good : ℕ} → utf8.Begins old → N.StopsAt (old ++ piece) whole good → BegunFront N.Utf8Text old piece
stopped_front old piece {good} begins stops =
    let after = after_kept old piece (old ++ piece) good refl begins stops.bad in
    let at : good ≡ length old + (good - length old) = omega arith in
    grind (arith, after_kept, N.take-append-add, N.length-append)

utf8_front : (old piece : List ℕ) (fault : N.Option ℕ) → N.utf8_error_len (utf8.rest (old ++ piece)) ≡ fault → utf8.Begins old → BegunFront N.Utf8Text old piece
utf8_front old piece N.None is begins = all_begun N.Utf8Text old piece (N.Utf8Laws.none_begins (old ++ piece) is)
utf8_front old piece (N.Some k) is begins = stopped_front old piece begins (N.Utf8Laws.stops_at (old ++ piece) _ k _ refl is refl)

-- after data that begins, the first bytes of any piece begin too and fix all the text that the piece fixes
pub begun_front : (c : N.Conversion) (old piece : List ℕ) → N.BeginsData c old → BegunFront c old piece
begun_front = grind (arith, utf8_front, N.take_all)

-- an odd byte completes no unit
odd_front : (d : List ℕ) (x : ℕ) → (length (d ++ x ∷ []) % 2 ≡ 0 → ⊥) → utf16_laws.front (d ++ x ∷ []) ≡ utf16_laws.front d
odd_front (low ∷ high ∷ low' ∷ high' ∷ bytes) x odd = N.ap (λ l. low ∷ high ∷ l) (odd_front (low' ∷ high' ∷ bytes) x (grind arith))
odd_front d x odd = grind arith

-- a byte after which no character ends completes none
unfit_front : (d : List ℕ) (x : ℕ) → (N.IsUtf8 (d ++ x ∷ []) → ⊥) → utf8_laws.front (d ++ x ∷ []) ≡ utf8_laws.front d
unfolding utf8_laws.front
unfit_front d x unfit =
    let all = d ++ x ∷ [] in
    let size = N.length-append d (x ∷ []) in
    let n = N.utf8_valid_len d in
    let fits = N.utf8_valid_len_le d in
    let same = N.take-append-le n d (x ∷ []) fits in
    rw (utf8_laws.valid_len_is all n (omega arith) (rw same (utf8_laws.front_is d)) (λ m more within u. elim (N.cases_lt m (length all)) [
      | N.inl less ↦ utf8_laws.longest_is d m more (omega arith) (grind (arith, N.take-append-le))
      | N.inr whole ↦ grind (arith, N.take_all)
    ])) same

-- a byte after which the data isn't whole adds no text
pub unfit_adds_none : (c : N.Conversion) (d : List ℕ) (x : ℕ) → N.is_fit c (d ++ x ∷ []) ≡ N.false
    → emit (N.conversion_rest c) (N.conversion_text c) (d ++ x ∷ []) ≡ emit (N.conversion_rest c) (N.conversion_text c) d
unfit_adds_none N.HexDigits d x unfit = cc
unfit_adds_none N.Utf16Text d x unfit = cc (
  N.JoiningLemmas.emit-front utf16_laws.fronts (d ++ x ∷ []),
  N.JoiningLemmas.emit-front utf16_laws.fronts d,
  odd_front d x (grind arith),
)
unfit_adds_none N.Windows1252Text d x unfit = cc
unfit_adds_none N.Utf8Text d x unfit = cc (
  N.JoiningLemmas.emit-front utf8_laws.fronts (d ++ x ∷ []),
  N.JoiningLemmas.emit-front utf8_laws.fronts d,
  unfit_front d x (grind (arith, N.is_utf8-from_IsUtf8)),
)

-- a piece grows the open field by the text of what was withheld and the piece
pub open_grows : (c : N.Conversion) (d e : List ℕ) → N.BeginsData c (d ++ e)
    → N.open_field c d ++ emit (N.conversion_rest c) (N.conversion_text c) (N.conversion_rest c d ++ e) ≡ N.open_field c (d ++ e)
open_grows c d e begins = let next = (N.ConversionLaws.joins_by_name c).emits d e begins in grind arith

-- the open field of whole data, the text of what was withheld and what closes the field are the field
pub open_closes : (c : N.Conversion) (d : List ℕ) → N.is_fit c d ≡ N.true
    → N.open_field c d ++ (N.conversion_text c (N.conversion_rest c d) ++ N.closing (N.is_quoted c)) ≡ N.long_field c d
open_closes c d fit = let whole = (N.ConversionLaws.joins_by_name c).ends d ((N.ConversionLaws.fit_by_test c d).0 fit) in grind
    (arith, N.append_assoc, N.append-nil)
