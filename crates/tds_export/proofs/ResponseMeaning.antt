-- What the bytes that lead to a part of a response spell.
use Rattle.tds_export.proofs as N
use N.{Bool, Column, Lead, List, None, Option, Some, Token, [], ap, arith, drop, false, lead, length, message, refl, take, true, ℕ, ◌%◌}
use N.{◌*◌, ◌++◌, ◌+◌, ◌/◌, ◌<◌, ◌∙◌, ◌∷◌, ◌≡◌, ◌≤◌}
use N.ResponseLaws.{ReturnMeans, return_step, part_at, IsFree, parts_within}

-- so many of the bytes after the first n, and those after them
piece : (body : List ℕ) (n k m : ℕ) {r : List ℕ} → n + k ≡ m → drop m body ≡ r → drop n body ≡ take k (drop n body) ++ r
piece body n k m e is = cc (N.take-append-drop k (drop n body), N.drop-drop k n body)

-- a byte that counts units, these, and the bytes after them
counted_at : (body : List ℕ) {n m : ℕ} {r : List ℕ} → n < length body → (n + 1) + 2 * N.slice_index body n ≡ m → drop m body ≡ r
    → drop n body ≡ N.slice_index body n ∷ (take (2 * N.slice_index body n) (drop (n + 1) body) ++ r)
counted_at = grind (arith, N.drop-cons, piece)

long : (body : List ℕ) (n k : ℕ) → n + k ≤ length body → length (take k (drop n body)) ≡ k
long = grind (arith, N.common_steps)

notice_spelt : (body : List ℕ) → N.holds_notice body ≡ true → N.SpellsNotice (N.notice_of body) body
notice_spelt body h =
    let u = N.little (take 2 (drop 6 body)) in
    let sa = N.server_at body in
    let pa = N.procedure_at body in
    let la = N.line_at body in
    let s = N.slice_index body sa in
    let p = N.slice_index body pa in
    let t = parts_within body h in
    let ls = long body (sa + 1) (2 * s) (omega arith) in
    let lp = long body (pa + 1) (2 * p) (omega arith) in
    let front : body ≡ take 4 body ++ (N.slice_index body 4 ∷ N.slice_index body 5 ∷ drop 6 body) = grind arith in
    let after = piece body 6 2 8 refl (piece body 8 (2 * u) _ refl
    (counted_at body t.0 refl (counted_at body t.1 refl (piece body la 4 (la + 4) refl refl)))) in
    let s_is : length (take (2 * s) (drop (sa + 1) body)) / 2 ≡ s = omega arith in
    let p_is : length (take (2 * p) (drop (pa + 1) body)) / 2 ≡ p = omega arith in
    record {
      head = take 4 body;
      units = take 2 (drop 6 body);
      server = take (2 * s) (drop (sa + 1) body);
      procedure = take (2 * p) (drop (pa + 1) body);
      last = take 4 (drop la body);
      ignored = drop (la + 4) body;
      spelt = simp N.append_assoc (cc);
      number = grind arith;
      message = (long body 6 2 (omega arith), long body 8 (2 * u) (omega arith));
      servers = omega arith;
      procedures = omega arith;
      line = (long body la 4 t.2, refl);
    }

module _ (charset : N.Charset) (room : ℕ) where
  one_more_token : (current : Option (List Column)) (ts : List Token) (a : List ℕ) (t : Token) (e : List ℕ) → N.SpellsTokens charset room current ts a
      → N.SpellsToken charset room (N.described_after current ts) t e → N.SpellsTokens charset room current (ts ++ t ∷ []) (a ++ e)
  one_more_token _ [] a t e h s = grind (arith, N.append-nil)
  one_more_token current (u ∷ ts) a t e h s = grind (arith, N.append_assoc, (one_more_token (N.described_after current (u ∷ [])) ts h.1 t e h.4 (grind arith)))

  -- whole tokens, the first byte of such a token, and what is after it
  pub record AfterLead (tokens : List Token) (lead : Lead) (P : List ℕ → Type 0) (b : List ℕ) : Type 0 where
    pub front : List ℕ
    pub first : ℕ
    pub rest : List ℕ
    pub spelt : b ≡ front ++ first ∷ rest
    pub before : N.SpellsTokens charset room None tokens front
    pub begins : N.IsFirst lead first
    pub follows : P rest

  abbrev row_lead : Bool → Lead
  row_lead false = N.ARow
  row_lead true = N.AnNbcRow

  abbrev OpenMeans : List Token → N.Open → List ℕ → Type 0
  OpenMeans tokens N.Between b = N.SpellsTokens charset room None tokens b
  OpenMeans tokens (N.Describing d) b = AfterLead tokens N.AMetadata (N.DescribedMeans room d) b
  OpenMeans tokens (N.InRow part) b = (columns : List Column) × (nbc : Bool) × (N.described_after None tokens ≡ Some columns)
      × AfterLead tokens (row_lead nbc) (N.RowMeans charset columns nbc part) b
  OpenMeans tokens (N.InReturn part) b = AfterLead tokens N.AReturn (ReturnMeans part) b
  OpenMeans tokens (N.TokenLength k) b = AfterLead tokens (N.WithBody k) (λ rest. rest ≡ []) b
  OpenMeans tokens (N.TokenBody k n) b = AfterLead tokens (N.WithBody k) (λ rest. (rest ≡ n % 256 ∷ n / 256 ∷ []) × (n < 65536)) b
  OpenMeans tokens (N.Fields f) b = AfterLead tokens (N.WithFields f) (λ rest. rest ≡ []) b

  abbrev PartMeans : N.Part → List ℕ → Type 0
  PartMeans p b = OpenMeans p.tokens p.at b

  -- more bytes of the token that is read
  further : {tokens : List Token} {lead : Lead} {P Q : List ℕ → Type 0} {b : List ℕ} (e : List ℕ) → (h : AfterLead tokens lead P b) → Q (h.rest ++ e)
      → AfterLead tokens lead Q (b ++ e)
  further = grind (arith, N.append_assoc)

  token_means : {tokens : List Token} (t : Token) {lead : Lead} {P : List ℕ → Type 0} {b : List ℕ} → (h : AfterLead tokens lead P b)
      → N.SpellsToken charset room (N.described_after None tokens) t (h.first ∷ h.rest) → PartMeans (N.with_token tokens t) b
  token_means = grind (arith, one_more_token)

  with_described_means : {tokens : List Token} (d : N.DescriptionPart) {b : List ℕ} → AfterLead tokens N.AMetadata (N.DescribedMeans room d) b
      → PartMeans (N.with_described tokens d) b
  with_described_means N.NoDescription h = token_means _ h (h.first, cc, h.begins)
  with_described_means (N.WholeDescription x cs) h = token_means _ h (grind arith)
  with_described_means d h = h

  with_row_means : {tokens : List Token} (part : N.RowPart) {b : List ℕ} {columns : List Column} (nbc : Bool)
      → N.described_after None tokens ≡ Some columns → AfterLead tokens (row_lead nbc) (N.RowMeans charset columns nbc part) b
      → PartMeans (N.with_row tokens part) b
  with_row_means (N.WholeRow cells) nbc e h = token_means _ h (grind arith)
  with_row_means _ nbc e h = grind arith

  with_return_means : {tokens : List Token} (part : N.ReturnPart) {b : List ℕ} → AfterLead tokens N.AReturn (ReturnMeans part) b
      → PartMeans (N.with_return tokens part) b
  with_return_means (N.WholeReturn r) h = token_means _ h (grind arith)
  with_return_means _ h = h

  row_begins : (tokens : List Token) (b : List ℕ) (x : ℕ) (current : Option (List Column)) → N.described_after None tokens ≡ current
      → N.row_byte_fault true current ≡ None → N.SpellsTokens charset room None tokens b → N.lead_of x ≡ Some N.ARow
      → PartMeans (N.start_of_row tokens (N.row_start N.PlainRow charset) current) (b ++ x ∷ [])
  row_begins _ b x None e f h begins = cc
  row_begins _ b x (Some columns) e f h begins =
      with_row_means _ _ e (record { front = b; first = x; rest = []; spelt = refl; before = h; begins = grind arith; follows = N.row_start_means _ _ })

  byte_step : (tokens : List Token) (b : List ℕ) (x : ℕ) (begun : Option Lead) → N.lead_of x ≡ begun → N.SpellsTokens charset room None tokens b
      → N.lead_fault (N.described_after None tokens) x begun ≡ None → PartMeans (N.after_first charset tokens begun) (b ++ x ∷ [])
  byte_step = grind (arith, row_begins, N.eq_true)

  body_means : {tokens : List Token} {k : N.Bodied} {body b : List ℕ} → (h : AfterLead tokens (N.WithBody k) (N.SpellsBody body) b) → IsFree k body
      → PartMeans (N.with_token tokens (N.bodied k body)) b
  body_means {tokens} {k} {body} {b} h f = token_means _ h (spelt k h.begins f)
    where
      spelt : (k : N.Bodied) → N.IsFirst (N.WithBody k) h.first → IsFree k body
          → N.SpellsToken charset room (N.described_after None tokens) (N.bodied k body) (h.first ∷ h.rest)
      spelt (N.APassed passed) begins f = grind arith
      spelt b begins f = (h.rest, body, grind arith, h.follows, notice_spelt _ (grind arith))

  -- each element keeps the meaning
  part_step : {tokens : List Token} (at : N.Open) (b : List ℕ) {e : List ℕ} → N.AreBytes e → OpenMeans tokens at b
      → N.IsNext (N.response charset room) (part_at tokens at) e → PartMeans (N.part_add charset tokens at e) (b ++ e)
  part_step (N.InRow part) b {e} bytes (columns, nbc, is, h) n = with_row_means _ _ is (further e h (grind (arith, N.row_step)))
  part_step (N.TokenLength k) b {e} bytes h n =
      let t = N.two_bytes e n.whole bytes in
      let read = ap (λ v. v ++ e) h.follows ∙ t.0 in
      N.choose (λ p. PartMeans p (b ++ e)) _ _ _ (λ z. body_means (further e h (read ∙ ap (λ v. v % 256 ∷ v / 256 ∷ []) (N.eq_true _ 0 z), omega arith))
      (grind arith)) (λ z. further e h (read, t.1))
  part_step {tokens} (N.Fields f) b {e} bytes h n =
      let to : AfterLead tokens (N.WithFields f) (λ rest. rest ≡ e) (b ++ e) = further e h (cc) in
      token_means _ to (grind arith)
  part_step at b bytes h n = grind (
    arith,
    N.common_steps,
    byte_step,
    N.one_byte,
    with_described_means,
    N.described_step,
    with_return_means,
    return_step,
    body_means,
  )

  -- What is read between tokens, after a final one, is a response.
  pub response_is_spelt : {payload : List ℕ} {tokens : List Token} → N.AreBytes payload → N.is_final tokens ≡ true
      → N.Spelt (N.response charset room) N.response_start payload (N.after_tokens tokens) → N.Response charset room tokens payload
  response_is_spelt are final h = record {
    spelt = N.SomeBytes.bytes_induct PartMeans (λ q b e k are n. part_step _ b are k n) _ refl _ _ are h;
    final = final;
  }
