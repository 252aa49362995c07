-- What is read grows by each element: the text so far, and the greatest span.
use Rattle.tds_export.proofs as N
use N.{Grows, IsNext, List, None, Open, Part, Token, [], arith, grows_same, text, text_so_far, ℕ, ◌++◌, ◌==◌, ◌∷◌, ◌≡◌, ◌≤◌}
use N.ResponseLaws.{part_at}

-- what a token byte other than that of a row begins
abbrev pub IsFresh : Open → Type 0
IsFresh (N.Describing d) = d ≡ N.BeforeCount
IsFresh (N.InRow part) = ⊥
IsFresh at = N.⊤

-- the cases of what a byte begins
pub lead_cases : (charset : N.Charset) (P : Part → Type 0) (tokens : List Token) (begun : N.Option N.Lead)
    → ((at : Open) → IsFresh at → P (part_at tokens at)) → P (N.start_of_row tokens (N.row_start N.PlainRow charset) (N.described_after None tokens))
    → P (N.start_of_row tokens (N.row_start N.NbcRow charset) (N.described_after None tokens)) → P (N.after_first charset tokens begun)
lead_cases = grind arith

-- ---- the text

-- a token that is whole
token_grows : (tokens : List Token) (t : Token) → Grows (text tokens ++ []) (text_so_far (N.with_token tokens t))
token_grows tokens t =
    let m = N.text_after (N.TokenLaws.begun_after N.false tokens) (t ∷ []) in
    (m, cc (N.append-nil (text tokens), N.append-nil (text tokens ++ m), N.TokenLaws.text_after-snoc N.false _ t))

-- what has just begun leaves the text
same_grows : (tokens : List Token) (at : Open) → IsFresh at → Grows (text tokens ++ []) (text_so_far (part_at tokens at))
same_grows = grind (arith, N.common_steps)

-- a row in its response
with_row_grows : (tokens : List Token) (part : N.RowPart) → Grows (text tokens ++ N.row_so_far part) (text_so_far (N.with_row tokens part))
with_row_grows = grind (arith, N.TokenLaws.texts)

-- a row that begins
start_grows : (tokens : List Token) (start : List N.Column → N.RowPart) (current : N.Option (List N.Column))
    → Grows (text tokens ++ []) (text_so_far (N.start_of_row tokens start current))
start_grows _ _ None = grows_same _
start_grows tokens start (N.Some columns) = N.grows_trans _ _ _ (N.grows_under (text tokens) [] _ (N.grows_all _)) (with_row_grows tokens (start columns))

-- a description in its response
with_described_grows : (tokens : List Token) (d : N.DescriptionPart) → Grows (text tokens ++ []) (text_so_far (N.with_described tokens d))
with_described_grows tokens N.NoDescription = token_grows tokens N.NoMetadata
with_described_grows tokens d = grind (arith, token_grows, grows_same)

-- a return value in its response
with_return_grows : (tokens : List Token) (part : N.ReturnPart) → Grows (text tokens ++ []) (text_so_far (N.with_return tokens part))
with_return_grows tokens (N.WholeReturn r) = token_grows tokens _
with_return_grows _ _ = grows_same _

-- ---- the text and the span

module _ (charset : N.Charset) (room : ℕ) where
  -- each element adds to the text, by where it is read
  part_grows : (tokens : List Token) (at : Open) (e : List ℕ) → IsNext (N.response charset room) (part_at tokens at) e
      → Grows (text tokens ++ N.open_text at) (text_so_far (N.part_add charset tokens at e))
  part_grows tokens N.Between e n = lead_cases charset (λ p. Grows (text tokens ++ []) (text_so_far p)) tokens _ (same_grows tokens)
      (grind (arith, start_grows)) (grind (arith, start_grows))
  part_grows tokens (N.InRow part) e n = N.grows_trans _ _ _ (grind (arith, N.grows_under, N.row_grows)) (with_row_grows tokens _)
  part_grows tokens (N.TokenLength b) e n = N.choose (λ p. Grows (text tokens ++ []) (text_so_far p)) (N.little e == 0) _ _
      (grind (arith, token_grows)) (grind (arith, grows_same))
  part_grows _ at e n = grind (arith, with_described_grows, with_return_grows, token_grows)

  -- all elements between two states add to the text
  pub text_along : {p q : Part} {bytes : List ℕ} → N.Spelt (N.response charset room) p bytes q → (more : List ℕ) × (text_so_far p ++ more ≡ text_so_far q)
  text_along {p} {q} s =
      let adds = λ (r : Part) (b e : List ℕ) (h : Grows (text_so_far p) (text_so_far r)) (n : IsNext _ r e). N.grows_trans _ _ _ h (part_grows _ _ e n) in
      N.Spelt-induct _ _ adds p (grows_same _) _ q s

  -- and to the span
  pub span_along : {p q : Part} {bytes : List ℕ} → N.Spelt (N.response charset room) p bytes q → N.span_so_far p ≤ N.span_so_far q
  span_along {p} {q} s = N.Spelt-induct _ (λ r b. N.span_so_far p ≤ N.span_so_far r)
      (grind (arith, N.common_steps, N.choose, N.is_some_value, N.known_type, N.some_kind, N.bare_type, N.eq_true, N.TokenLaws.greatest_span-append)) p
      (omega arith) _ q s
