-- What a response's spelling is read as.
use Rattle.tds_export.proofs as N
use N.{List, None, Some, Spelt, Stop, arith, length, take, ℕ, ◌++◌, ◌<◌, ◌≡◌, [], ap, drop, line_at, refl, sym, true, w32, ◌*◌, ◌+◌, ◌/◌, ◌∙◌, ◌∷◌, ◌≤◌}
use N.{Fault, Kind, Option, Bodied, Column, Part, Token, before, described_after, if◌then◌else◌, lead, little, passed, response}
use N.Words.{return_value}
use N.{with_token, ◌%◌, ◌&&◌, after_tokens, Grammar, Spelt-step, Notice, append_assoc}

module _ {S : Type 0} {g : Grammar S Fault} {s t : S} where
  -- one element
  pub spelt_one : {e : List ℕ} → 0 < length e → length e ≡ g.size s → g.fault s e ≡ None → g.add s e ≡ t → Spelt g s e t
  spelt_one = grind (arith, Spelt-step)

  -- some, and those after them
  pub spelt_both : {u : S} {a b : List ℕ} → Spelt g s a t → Spelt g t b u → Spelt g s (a ++ b) u
  spelt_both = grind (arith, N.Spelt-append)

module _ {S : Type 0} {g : Grammar S Fault} {s : S} {a b : N.PayloadView} {place n : ℕ} {stop : Stop} where
  -- fewer bytes than it has came
  pub part_cut : {own : Stop} {part : List ℕ} → g.size s ≡ n → g.end_fault s ≡ Some N.MessageEnded → length part < n → N.Ends a b part own
      → stop ≡ N.began_at place own → N.StopsReading g s a b place s stop
  part_cut = search arith

  -- the slice that it is to fill isn't filled
  pub fill_cut : {to : List ℕ} → g.size s ≡ n → g.end_fault s ≡ Some N.MessageEnded → length to ≡ n
      → ((k : ℕ) × (own : Stop) × (k < length to) × N.Ends a b (take k to) own × (stop ≡ N.began_at place own)) → N.StopsReading g s a b place s stop
  fill_cut = grind (arith, N.length-take)

-- ---- what the lengths within the body of a notice say, and what it is read as

-- the parts of a body that holds lie within it
pub parts_within : (body : List ℕ) → N.holds_notice body ≡ true → (N.server_at body < length body) × (N.procedure_at body < length body)
    × (line_at body + 4 ≤ length body)
parts_within = grind arith

-- a number of 32 bits as one with a sign
pub signed_is : (n : ℕ) → N.cast_signed w32 n ≡ N.signed n
signed_is = grind arith

-- an error as its body has it
pub error_is : (body : List ℕ) {number line : N.ℤ} (at : ℕ) → 14 ≤ length body → at ≡ line_at body → line_at body + 4 ≤ length body
    → number ≡ N.cast_signed w32 (N.little_number 4 body) → line ≡ N.cast_signed w32 (N.little_number 4 (drop at body))
    → ◌≡◌ {A = N.ServerError} (record { number = number; state = N.slice_index body 4; class = N.slice_index body 5; line = line })
    (N.server_error (N.notice_of body))
error_is = grind arith

-- what stands after the first n bytes begins with k known ones
piece : (body : List ℕ) (n k : ℕ) (a b : List ℕ) → drop n body ≡ a ++ b → length a ≡ k → (take k (drop n body) ≡ a) × (drop (n + k) body ≡ b)
piece _ n k a b e l = (rw (e, ← l) (N.take-append_seam a b), sym (N.drop-drop k n _) ∙ rw (e, ← l) (N.drop-append_seam a b))

-- the first byte of what stands there
byte_of : (body : List ℕ) (n x : ℕ) (b : List ℕ) → drop n body ≡ x ∷ b → N.slice_index body n ≡ x
byte_of = grind (arith, N.common_steps)

-- the body of a notice is read as it
notice_is_read : {n : Notice} {body : List ℕ} → N.SpellsNotice n body → (14 ≤ length body) × (N.holds_notice body ≡ true) × (N.notice_of body ≡ n)
notice_is_read {n} {body} h =
    let u = little h.units in
    let s = length h.server / 2 in
    let p = length h.procedure / 2 in
    let spelt = simp append_assoc at h.spelt in
    let head = piece _ 0 4 _ _ spelt h.number.0 in
    let units = piece body 6 2 h.units _ (piece body 4 2 (n.state ∷ n.class ∷ []) _ head.1 refl).1 h.message.0 in
    let message = piece body 8 (2 * u) n.message _ units.1 h.message.1 in
    let procedure = (piece body (8 + 2 * u) (1 + 2 * s) (s ∷ h.server) _ message.1 (omega arith)).1 in
    let line = (piece body ((8 + 2 * u) + (1 + 2 * s)) (1 + 2 * p) (p ∷ h.procedure) _ procedure (omega arith)).1 in
    let line_is : line_at body ≡ ((8 + 2 * u) + (1 + 2 * s)) + (1 + 2 * p) = grind (arith, byte_of) in
    let long : line_at body + 4 ≤ length body = grind (arith, N.length-append) in
    let number : N.little (take 4 (drop (line_at body) body)) ≡ n.line_number = rw (line_is, (piece body _ 4 h.last h.ignored line h.line.0).0) h.line.1 in
    (omega arith, grind arith, grind arith)

-- ---- what a return value's spelling is read as, and what the bytes that lead to a part of it spell

-- a state of a small grammar stands in a big one: the next element is the same there, and so is the fault of an end
pub record Agrees {S T : Type 0} (small : Grammar S Fault) (big : Grammar T Fault) (lift : S → T) (s : S) : Type 0 where
  pub size : big.size (lift s) ≡ small.size s
  pub fault : (e : List ℕ) → big.fault (lift s) e ≡ small.fault s e
  pub add : (e : List ℕ) → big.add (lift s) e ≡ lift (small.add s e)
  pub end : big.end_fault (lift s) ≡ small.end_fault s

-- a grammar whose open states stand so is inside the big one
module _ {S T : Type 0} {small : Grammar S Fault} {big : Grammar T Fault} {lift : S → T} (all : (s : S) → 0 < small.size s
    → Agrees small big lift s) where
  pub inside : N.Inside small big lift
  inside = grind arith

  module _ {s t : S} where
    -- what it reads is read by the big one
    pub spelt_inside : {bytes : List ℕ} → Spelt small s bytes t → Spelt big (lift s) bytes (lift t)
    spelt_inside x = N.Inside-Spelt _ _ _ inside _ _ _ x

    abbrev pub read_inside : {a b : N.PayloadView} → N.Reads small s a b t → N.Reads big (lift s) a b (lift t)
    read_inside {a} {b} x = N.reads_inside _ _ lift inside _ a b _ x

    -- and so is what stops it
    pub stop_inside : {a b : N.PayloadView} {place : ℕ} {stop : Stop} → N.StopsReading small s a b place t stop
        → N.StopsReading big (lift s) a b place (lift t) stop
    stop_inside = grind (arith, N.stops_inside, inside)

-- a value is read in its token as by itself
pub value_agrees : {name : List ℕ} {kind : Kind} (p : N.CellPart) → 0 < (N.cell N.return_column).size p
    → Agrees (N.cell N.return_column) return_value (N.with_value name kind) p
value_agrees = grind arith

pub return_name_is_read : (units : ℕ) (name : List ℕ) → length name ≡ 2 * units → Spelt return_value (N.with_return_units units) name (N.ReturnHead name)
return_name_is_read = grind (arith, N.common_steps, Spelt-step)

front_is_read : {name front : List ℕ} → N.SpellsReturnName name front → Spelt return_value N.ReturnOrdinal front (N.ReturnHead name)
front_is_read h =
    let next : Spelt return_value N.ReturnNameCount (h.units ∷ []) (N.with_return_units h.units) = grind (arith, spelt_one) in
    rw h.spelt (spelt_both (spelt_one (omega arith) h.two refl refl) (spelt_both next (return_name_is_read _ _ h.counted)))

head_is_read : {name : List ℕ} (ignored : List ℕ) (byte : ℕ) {n : ℕ} → length ignored ≡ 7 → N.rest_length byte ≡ Some n
    → Spelt return_value (N.ReturnHead name) (ignored ++ byte ∷ []) (N.with_return_type name byte n)
head_is_read = grind (arith, N.common_steps, Spelt-step)

pub info_is_read : (name : List ℕ) (byte : ℕ) (rest : List ℕ) {kind : Kind} → N.rest_length byte ≡ Some (length rest)
    → N.kind_of (byte ∷ rest) ≡ Some kind → Spelt return_value (N.with_return_type name byte (length rest)) rest (N.with_return_kind name (Some kind))
info_is_read = grind (arith, N.common_steps, Spelt-step)

-- What spells a return value is read as it.
return_is_read : {r : N.ReturnValue} {bytes : List ℕ} → N.SpellsReturnValue r bytes → Spelt return_value N.ReturnOrdinal bytes (N.WholeReturn r)
return_is_read {r} h =
    let info = N.byte_and_rest _ _ h.type in
    rw h.spelt (spelt_both (front_is_read h.named) (spelt_both (rw (append_assoc h.ignored (info.byte ∷ []) info.rest
    ∙ ap (λ v. h.ignored ++ v) (sym info.spelt)) at (spelt_both (head_is_read _ _ h.seven info.whole)
    (info_is_read r.name info.byte info.rest info.whole info.allowed))) (spelt_inside value_agrees
    (N.cell_is_read N.return_column r.kind _ r.value h.value (grind arith) h.cell))))

-- the bytes up to the value's, and what is read of it
pub record ValueMeans (name : List ℕ) (kind : Kind) (part : N.CellPart) (b : List ℕ) : Type 0 where
  pub front : List ℕ
  pub ignored : List ℕ
  pub info : List ℕ
  pub value : List ℕ
  pub spelt : b ≡ front ++ ((ignored ++ info) ++ value)
  pub named : N.SpellsReturnName name front
  pub seven : length ignored ≡ 7
  pub type : N.IsTypeInfo kind info
  pub begun : N.CellMeans kind (N.shape N.return_charset kind) part value

-- what the bytes that lead to a part of a return value spell
abbrev pub ReturnMeans : N.ReturnPart → List ℕ → Type 0
ReturnMeans N.ReturnOrdinal b = b ≡ []
ReturnMeans N.ReturnNameCount b = length b ≡ 2
ReturnMeans (N.ReturnName n) b = (ordinal : List ℕ) × (units : ℕ) × (b ≡ ordinal ++ units ∷ []) × (length ordinal ≡ 2) × (n ≡ 2 * units) × (units < 256)
ReturnMeans (N.ReturnHead name) b = N.SpellsReturnName name b
ReturnMeans (N.ReturnInfo name byte) b = (front : List ℕ) × (ignored : List ℕ) × (b ≡ front ++ (ignored ++ byte ∷ [])) × N.SpellsReturnName name front
    × (length ignored ≡ 7) × (n : ℕ) × (N.rest_length byte ≡ Some n)
ReturnMeans (N.InReturnCell name kind part) b = ValueMeans name kind part b
ReturnMeans (N.WholeReturn r) b = N.SpellsReturnValue r b

with_value_means : {name : List ℕ} {kind : Kind} {part : N.CellPart} {b : List ℕ} → ValueMeans name kind part b → ReturnMeans (N.with_value name kind part) b
with_value_means = grind arith

value_begins : {name : List ℕ} {o : Option Kind} {kind : Kind} {b front : List ℕ} (ignored info : List ℕ) → o ≡ Some kind → b ≡ front ++ (ignored ++ info)
    → N.SpellsReturnName name front → length ignored ≡ 7 → N.IsTypeInfo kind info → ReturnMeans (N.with_return_kind name o) b
value_begins = grind (arith, N.append-nil, N.start_means, with_value_means)

type_begins : (name : List ℕ) (byte n : ℕ) (b front ignored : List ℕ) → b ≡ front ++ (ignored ++ byte ∷ []) → N.SpellsReturnName name front
    → length ignored ≡ 7 → N.rest_length byte ≡ Some n → ReturnMeans (N.with_return_type name byte n) b
type_begins _ _ n b _ _ spelt named seven known = N.choose (λ p. ReturnMeans p b) _ _ _ (λ z.
    let k = N.bare_type _ (rw (N.eq_true n 0 z) at known) in
    value_begins _ _ k.1 spelt named seven k.1) (λ z. grind arith)

-- each element keeps the meaning
pub return_step : (p : N.ReturnPart) (b e : List ℕ) → N.AreBytes e → ReturnMeans p b → N.IsNext return_value p e → ReturnMeans (N.return_add p e) (b ++ e)
return_step (N.ReturnInfo name byte) b e bytes h n =
    let k = N.is_some_value _ (grind arith) in
    value_begins h.1 (byte ∷ e) k.1 (grind (arith, append_assoc)) h.3 h.4 k.1
return_step (N.InReturnCell name kind part) b e bytes h n =
    with_value_means (record {
      front = h.front;
      ignored = h.ignored;
      info = h.info;
      value = h.value ++ e;
      spelt = grind (arith, append_assoc);
      named = h.named;
      seven = h.seven;
      type = h.type;
      begun = grind (arith, N.cell_step);
    })
return_step p b e bytes h n = grind (arith, N.common_steps, N.one_byte, N.split_last, type_begins)

-- ---- what a response's spelling is read as

pub described_after-append : (before : Option (List Column)) (a b : List Token) → described_after before (a ++ b) ≡ described_after (described_after before a) b
described_after-append before [] b = refl
described_after-append before (N.NoMetadata ∷ a) b = described_after-append _ a b
described_after-append before (t ∷ a) b = described_after-append _ a b

-- what is described has columns
abbrev HasColumns : Option (List Column) → Type 0
HasColumns None = N.⊤
HasColumns (Some columns) = 0 < length columns

-- a body has no fault
abbrev pub IsFree : Bodied → List ℕ → Type 0
IsFree which body = (if N.is_notice which && N.not (N.holds_notice body) then Some N.BadNotice else None) ≡ None

-- a part by its tokens and where it is read
abbrev pub part_at : List Token → N.Open → Part
part_at tokens at = record { tokens = tokens; at = at }

module _ (charset : N.Charset) (room : ℕ) where
  -- a description is read in its response as by itself
  pub description_agrees : {tokens : List Token} (d : N.DescriptionPart) → 0 < (N.description room).size d
      → Agrees (N.description room) (response charset room) (N.with_described tokens) d
  description_agrees = grind arith

  -- so is a row
  pub row_agrees : {tokens : List Token} (p : N.RowPart) → 0 < (N.row charset).size p → Agrees (N.row charset) (response charset room) (N.with_row tokens) p
  row_agrees = grind arith

  -- and a return value
  pub return_agrees : {tokens : List Token} (p : N.ReturnPart) → 0 < return_value.size p → Agrees return_value (response charset room) (N.with_return tokens) p
  return_agrees = grind arith

  -- bytes are read as a part of a response after another
  abbrev Leads : Part → List ℕ → Part → Type 0
  Leads = Spelt (response charset room)

  -- the first byte of a token, and what follows it
  lead_then : {tokens : List Token} (lead : N.Lead) {rest bytes : List ℕ} {to : Part} → N.StartsToken lead rest bytes
      → N.row_byte_fault (N.is_row_lead lead) (described_after None tokens) ≡ None → Leads (N.after_lead charset tokens lead) rest to
      → Leads (after_tokens tokens) bytes to
  lead_then {tokens} lead (first, is, begins) free h =
      let one : Leads (after_tokens tokens) (first ∷ []) (N.after_lead charset tokens lead) = grind (arith, spelt_one) in
      rw is (spelt_both one h)

  -- so are a Length and the body after it
  pub body_is_read : {tokens : List Token} {b : Bodied} (element body : List ℕ) → length element ≡ 2 → little element ≡ length body
      → N.part_fault room tokens (N.TokenLength b) element ≡ None → IsFree b body
      → Leads (part_at tokens (N.TokenLength b)) (element ++ body) (with_token tokens (N.bodied b body))
  body_is_read _ [] two is f g = grind (arith, Spelt-step, N.append-nil)
  body_is_read {tokens} {b} element (x ∷ xs) two is f g =
      let n = length (x ∷ xs) in
      let to : (response charset room).add (part_at tokens (N.TokenLength b)) element ≡ part_at tokens (N.TokenBody b n) =
      grind arith in
      spelt_both (spelt_one (omega arith) two f to) (grind (arith, spelt_one))

  -- the same by what spells a body
  spelt_body : {tokens : List Token} {b : Bodied} {body bytes : List ℕ} → (N.is_notice b ≡ true → 14 ≤ length body)
      → (N.is_notice b ≡ true → N.holds_notice body ≡ true) → N.SpellsBody body bytes
      → Leads (part_at tokens (N.TokenLength b)) bytes (with_token tokens (N.bodied b body))
  spelt_body {tokens} {b} {body} long holds h =
      let n = length body in
      rw h.0 (body_is_read (n % 256 ∷ n / 256 ∷ []) _ refl (omega arith) (grind arith) (grind arith))

  -- so is a notice
  notice_token_is_read : {tokens : List Token} (b : Bodied) {n : Notice} {t : Token} {body rest bytes : List ℕ} → N.StartsToken (N.WithBody b) rest bytes
      → N.SpellsBody body rest → N.SpellsNotice n body → N.bodied b body ≡ t → Leads (after_tokens tokens) bytes (with_token tokens t)
  notice_token_is_read b begins s h is =
      let r = notice_is_read h in
      lead_then (N.WithBody b) begins (grind arith) (grind (arith, spelt_body))

  -- a token with fields of a fixed length
  fixed_is_read : {tokens : List Token} (f : N.Fixed) {t : Token} {fields bytes : List ℕ} → N.StartsToken (N.WithFields f) fields bytes
      → length fields ≡ N.fields_length f → N.fixed f fields ≡ t → Leads (after_tokens tokens) bytes (with_token tokens t)
  fixed_is_read f begins long is = lead_then (N.WithFields f) begins (grind arith) (grind (arith, Spelt-step))

  row_token_is_read : {tokens : List Token} (current : Option (List Column)) (cells : List N.Cell) {bytes : List ℕ}
      → described_after None tokens ≡ current → HasColumns current → N.SpellsRowToken charset current cells bytes
      → Leads (after_tokens tokens) bytes (with_token tokens (N.Row cells))
  row_token_is_read None _ is some h = absurd h
  row_token_is_read (Some columns) _ is some (rest, N.inl h) =
      lead_then N.ARow h.0 (cc) (rw is (spelt_inside row_agrees (N.row_is_read _ _ _ _ h.1)))
  row_token_is_read (Some columns) cells is some (rest, N.inr h) =
      lead_then N.AnNbcRow h.0 (cc) (rw is (spelt_inside row_agrees (N.nbc_row_is_read _ columns cells rest (omega arith) h.1)))

  -- what spells a token is read as it
  token_is_read : {tokens : List Token} (t : Token) {bytes : List ℕ} → HasColumns (described_after None tokens)
      → N.SpellsToken charset room (described_after None tokens) t bytes → Leads (after_tokens tokens) bytes (with_token tokens t)
  token_is_read (N.Metadata encoded columns) some h = lead_then N.AMetadata h.0 (grind arith)
      (spelt_inside description_agrees (N.description_is_read _ _ _ h.1))
  token_is_read N.NoMetadata some h = lead_then N.AMetadata h (grind arith) (grind (arith, Spelt-step))
  token_is_read (N.Row cells) some h = row_token_is_read _ _ refl some h
  token_is_read (N.PassedOver passed body) some (rest, begins, s) = lead_then (N.WithBody (N.APassed passed)) begins (grind arith)
      (spelt_body (λ e. cc) (λ e. cc) s)
  token_is_read (N.Error n) some (rest, body, begins, s, h) = notice_token_is_read N.AnError begins s h (ap N.Error (notice_is_read h).2)
  token_is_read (N.Info n) some (rest, body, begins, s, h) = notice_token_is_read N.AnInfo begins s h (ap N.Info (notice_is_read h).2)
  token_is_read (N.Returned r) some (rest, begins, h) = lead_then N.AReturn begins (grind arith)
      (spelt_inside return_agrees (return_is_read h))
  token_is_read (N.Done m) some h = fixed_is_read N.ADone h.1 h.2 (grind arith)
  token_is_read (N.DoneInProc m) some h = fixed_is_read N.ADoneInProc h.1 h.2 (grind arith)
  token_is_read (N.ReturnStatus n) some h = fixed_is_read N.AStatus h.1 h.2 (cc)

  tokens_are_read : (before : List Token) (current : Option (List Column)) (ts : List Token) (bytes : List ℕ) → described_after None before ≡ current
      → HasColumns current → N.SpellsTokens charset room current ts bytes → Leads (after_tokens before) bytes (after_tokens (before ++ ts))
  tokens_are_read before _ [] _ is some h = grind (arith, N.append-nil)
  tokens_are_read before current (t ∷ ts) _ is some h =
      let one : Leads (after_tokens before) h.0 (with_token before t) = grind (arith, token_is_read) in
      let rest = tokens_are_read (before ++ t ∷ []) (described_after current (t ∷ [])) ts h.1
      (cc (described_after-append None before (t ∷ []))) (grind arith) h.4 in
      grind (arith, N.Spelt-append, append_assoc)

  -- What spells a response is read as its tokens, all of it.
  pub response_is_read : {tokens : List Token} {payload : List ℕ} → N.Response charset room tokens payload
      → Leads N.response_start payload (after_tokens tokens)
  response_is_read h = tokens_are_read _ _ _ _ refl tt h.spelt

  -- No payload spells the tokens of two responses.
  pub one_response : (a b : List Token) (payload : List ℕ) → N.Response charset room a payload → N.Response charset room b payload → a ≡ b
  one_response a b _ h k = ap (λ p. p.tokens) (N.one_state _ _ _ _ _ (response_is_read h) (response_is_read k))

  -- No response begins with an element that is refused.
  pub refused_response : (payload more' : List ℕ) (place : ℕ) (part : Part) (f : Fault) (tokens : List Token)
      → N.Longest (response charset room) N.response_start payload place part → N.IsRefused (response charset room) part (drop place payload) f
      → N.Response charset room tokens (take (place + (response charset room).size part) payload ++ more') → ⊥
  refused_response _ more' _ _ f _ l r h = N.refused_for_good _ _ _ _ _ f _ _ l.spelt r
      (rw N.take-add at (response_is_read h))

  -- No input begins with two accepted responses.
  pub one_accepted : (size limit : ℕ) (a b : List Token) (p q : List N.Packet) (input : List ℕ) → N.Accepted charset size room limit a p input
      → N.Accepted charset size room limit b q input → (a ≡ b) × (p ≡ q)
  one_accepted _ _ a b p q _ h k =
      let same = N.one_message _ _ p q _ _ _ _ h.message k.message (sym h.begins ∙ k.begins) in
      (grind (arith, one_response))
