-- What a run over responses delivers if its input is accepted ones, one after another, and no device fails.
use Rattle.tds_replay.proofs.Words as N
use N.{◌≡◌, ◌∙◌, ◌+◌, ◌-◌, ◌^◌, ◌<◌, ◌≤◌, ◌⊎◌, ◌++◌, ℕ, List, [], ◌∷◌, Option, None, Some, Result, Ok, Err, inl, inr, refl, sym, ap, subst, arith, length}
use Rattle.tds_export.specs.Exports.{Tells}
use N.{Charset, Status, Report, Stopped, Counted, Standing, Telling, Sent, ExportInput, wire_of}

-- ---- what is known of devices

known_kept : {xs : List ℕ} (a b : Option (List ℕ)) → a ≡ Some xs → N.Keeps a b → b ≡ Some xs
known_kept = grind arith

-- a reader that is told to be over has no byte left, and one that is told not to be has some
told_over : (xs : List ℕ) (a : Option (List ℕ)) → a ≡ Some xs → N.TellsInputEnd a N.true → xs ≡ []
told_over = grind arith

-- a count that stayed didn't rise
stayed : (a b c : ℕ) (moved : List ℕ) → b ≡ a → N.IsAnswered a c → N.Rises b c moved → ⊥
stayed = grind arith

-- ---- one response

-- an export from an accepted response on, none of whose devices failed
pub record Succeeded (given : ExportInput) (sent : Sent) (rest : List ℕ) (answer : Result Report Stopped) : Type 0 where
  pub answer_is : answer ≡ Ok (N.report_on sent)
  pub left : given.after.reader.bytes ≡ Some rest
  pub text : N.Appends given.before.writer.bytes given.after.writer.bytes (N.text sent.tokens)
  pub notice : given.after.areas.notice.bytes ≡ N.error_text sent.tokens

module _ (given : ExportInput) (sent : Sent) (rest : List ℕ) (accepted : N.IsAccepted given.charset (N.limits_of given) sent)
    (bytes : N.AreBytes (wire_of sent.packets ++ rest)) (begins : given.before.reader.bytes ≡ Some (wire_of sent.packets ++ rest)) where
  succeeded : (answer : Result Report Stopped) → Tells given answer → (N.FailsToRead given → ⊥) → (N.FailsToWrite given → ⊥) → Succeeded given sent rest answer
  unfolding Tells
  succeeded answer tells reads writes =
      let told = tells (wire_of sent.packets ++ rest) bytes begins in
      let is = told.5 sent.tokens sent.packets
      (record { wire = wire_of sent.packets; unread = rest; begins = refl; message = accepted.message; response = accepted.response }) reads writes in
      grind (arith, N.append_cancel_left, given)

  -- of a report it is known that no device failed
  reported : (report : Report) → Tells given (Ok report) → Succeeded given sent rest (Ok report)
  unfolding Tells
  reported = grind (arith, succeeded)

-- a report leaves the counts of failures
counts_stay : (given : ExportInput) (report : Report) → N.ReportsExport given report
    → (given.after.reader.failures ≡ given.before.reader.failures) × (given.after.writer.failures ≡ given.before.writer.failures)
counts_stay = grind arith

-- ---- the notes

-- texts were written, or a write failed: each count that was reached before is passed
abbrev SaysAll : {M : Type 0} → (M → Option (List ℕ)) → Counted M → Counted M → List ℕ → Type 0
SaysAll contents old new text = N.WritesText contents old new text ⊎ ((n : ℕ) → n < N.last_count → n ≤ old.failures → n < new.failures)

passed : (n a b : ℕ) (moved : List ℕ) → n < N.last_count → n ≤ a → N.Rises a b moved → n < b
passed = grind arith

module _ {M : Type 0} (contents : M → Option (List ℕ)) (a b c : Counted M) (s t : List ℕ) where
  says_both : N.SaysOrFails contents a b s → SaysAll contents b c t → SaysAll contents a c (s ++ t)
  says_both (inl x) (inl y) = grind (arith, N.Appends-trans)
  says_both (inl x) (inr y) = inr (λ n least within. y n least (omega arith))
  says_both (inr x) (inl y) = grind (arith, passed)
  says_both (inr x) (inr y) = inr (λ n least within. let more = passed n a.failures b.failures _ least within x.counted in y n least (omega arith))

  -- the last text was written, or a write failed
  says_last : SaysAll contents a b s → N.SaysOrFails contents b c t → N.IsAnswered a.failures c.failures
      → N.Appends (contents a.device) (contents c.device) (s ++ t)
  says_last = grind (arith, N.Appends-trans, stayed, passed)

-- ---- responses

-- a response has some bytes
some_wire : (size : ℕ) (packets : List N.Packet) (rest : List ℕ) → N.AreMessage size packets → wire_of packets ++ rest ≡ [] → ⊥
some_wire size [] rest message none = message
some_wire size (p ∷ ps) rest message none = cc

module _ {R W M : Type 0} (tell : Telling R W M) (charset : Charset) where
  -- these responses are to come, and up to the end no read or write of rows fails
  record Awaits (a e : Standing R W M) (sents : List Sent) : Type 0 where
    pub accepted : N.AreAccepted charset a.areas.limits sents
    pub bytes : N.AreBytes (N.wires_of sents)
    pub begins : tell.remaining a.devices.from.device ≡ Some (N.wires_of sents)
    pub reads : N.IsAnswered a.devices.from.failures e.devices.from.failures
    pub writes : N.IsAnswered a.devices.to.failures e.devices.to.failures

  -- an accepted response was read and reported, and the others are to come
  record Stepped (a b e : Standing R W M) (report : Report) (sent : Sent) (sents : List Sent) : Type 0 where
    pub report_is : report ≡ N.report_on sent
    pub text : N.Appends (tell.contents a.devices.to.device) (tell.contents b.devices.to.device) (N.text sent.tokens)
    pub line : N.SaysOrFails tell.said a.devices.notes b.devices.notes (N.answer_lines (Ok (N.report_on sent)) (N.error_text sent.tokens))
    pub next : Awaits b e sents

  module _ {a e : Standing R W M} {sent : Sent} {sents : List Sent} (w : Awaits a e (sent ∷ sents)) where
    -- what an export of it was given, after a look ahead
    given : Standing R W M → Standing R W M → ExportInput
    given b c = N.given_of charset (N.moment_of tell b) (N.moment_of tell c)

    stepped : {c : Standing R W M} {report : Report} → N.ReturnsNext tell charset a c (Ok report) → Stepped a c e report sent sents
    unfolding given
    stepped {c} {report} (b, sees, returns) =
        let step = reported (given b c) sent (N.wires_of sents) (grind arith) w.bytes (grind arith) report returns.exports.tells in
        let counts = counts_stay (given b c) report returns.exports.gives in
        let report_is : report ≡ N.report_on sent = cc in
        let bytes = N.AreBytes-back (wire_of sent.packets) (N.wires_of sents) w.bytes in
        grind arith

    -- such a response doesn't stop if no device fails
    not_stopped : {stopped : Stopped} → N.StopsNext tell charset a e stopped → ⊥
    unfolding given
    not_stopped {stopped} (inl (b, sees, returns)) =
        let step = succeeded (given b e) sent (N.wires_of sents) (grind arith) w.bytes (grind arith) (Err stopped) returns.exports.tells (grind arith)
        (grind arith) in
        grind arith
    not_stopped (inr fails) = grind arith

  -- what a run from here on delivers
  pub record Delivered (a e : Standing R W M) (reports : List Report) (stop : Option Stopped) (sents : List Sent) : Type 0 where
    pub reports_are : reports ≡ N.map N.report_on sents
    pub none_stops : stop ≡ None
    pub left : tell.remaining e.devices.from.device ≡ Some []
    pub texts : N.Appends (tell.contents a.devices.to.device) (tell.contents e.devices.to.device) (N.texts_of sents)
    pub lines : SaysAll tell.said a.devices.notes e.devices.notes (N.lines_of sents)

  -- an input without a byte ends a run
  ended : (n : ℕ) (stop : Option Stopped) {a e : Standing R W M} → N.EndsAfter tell charset n stop a e → Awaits a e [] → Delivered a e [] stop []
  ended n None (inl sees) w = grind (arith, known_kept, N.Appends-nil)
  ended n None (inr x) w = grind (arith, N.Appends-nil)
  ended n (Some stopped) (inl next) w = grind arith
  ended n (Some stopped) (inr fails) w = grind arith

  -- a run doesn't end before an accepted response
  not_ended : {s : Sent} {ss : List Sent} (n : ℕ) (stop : Option Stopped) {a e : Standing R W M} → N.EndsAfter tell charset n stop a e
      → n + length (s ∷ ss) < 2 ^ 64 → Awaits a e (s ∷ ss) → ⊥
  not_ended n None (inl sees) fits w = grind (arith, some_wire, told_over)
  not_ended n None (inr x) fits w = omega (arith, x.0)
  not_ended n (Some stopped) stops fits w = not_stopped w stops

  delivered : (reports : List Report) (sents : List Sent) (k n : ℕ) (stop : Option Stopped) (m : Standing R W M) {a e : Standing R W M}
      → N.Reports tell charset a reports m → N.EndsAfter tell charset n stop m e → n ≡ k + length reports → k + length sents < 2 ^ 64
      → Awaits a e sents → Delivered a e reports stop sents
  delivered [] [] k n stop m {e = e} is ends n_is fits w = ended n stop (subst (λ s. N.EndsAfter tell charset n stop s e) is ends) w
  delivered [] (s ∷ ss) k n stop m {e = e} is ends n_is fits w =
      absurd (not_ended n stop (subst (λ s. N.EndsAfter tell charset n stop s e) is ends) (omega arith) w)
  delivered (r ∷ rs) [] k n stop m reported ends n_is fits w = absurd (grind arith)
  delivered (r ∷ rs) (s ∷ ss) k n stop m reported ends n_is fits w =
      let step = stepped w reported.1 in
      let rest = delivered rs ss (k + 1) n stop m reported.2 ends (omega arith) (omega arith) step.next in
      record {
        reports_are = rw (step.report_is, rest.reports_are);
        none_stops = rest.none_stops;
        left = rest.left;
        texts = N.Appends-trans _ _ _ (N.text s.tokens) (N.texts_of ss) step.text rest.texts;
        lines = says_both tell.said _ _ _ _ (N.lines_of ss) step.line rest.lines;
      }

-- all responses that the input is are delivered
pub delivers_accepted : {R W M : Type 0} (tell : Telling R W M) (charset : Charset) (old new : Standing R W M) (status : Status)
    → N.RunsAll tell charset old new status → N.DeliversAccepted tell charset old.areas.limits old.devices new.devices status
delivers_accepted tell charset old new status x sents accepted bytes begins fits none =
    let reads = subst (λ (from : Counted _). N.IsAnswered old.devices.from.failures from.failures) x.reader none.reader in
    let writes = subst (λ (to : Counted _). N.IsAnswered old.devices.to.failures to.failures) x.writer none.writer in
    let d = delivered tell charset x.reports sents 0 (length x.reports) x.stop x.runs.middle {e = x.middle} x.runs.reported x.runs.ends (omega arith)
    (omega arith) (record { accepted = accepted; bytes = bytes; begins = begins; reads = reads; writes = writes }) in
    grind (arith, N.length-map, says_last)

-- the same of work that had memory
pub delivers_all : {R W M : Type 0} (tell : Telling R W M) (charset : Charset) (limits : N.Limits) (before after : N.Devices R W M) (status : Status)
    → N.PerformsAll tell charset limits before after status → (status ≡ N.OutOfMemory → ⊥) → N.DeliversAccepted tell charset limits before after status
delivers_all tell charset limits before after status (inl x) some =
    subst (λ (l : N.Limits). N.DeliversAccepted tell charset l before after status) x.made.limits_are (delivers_accepted tell charset _ _ status x.runs)
delivers_all tell charset limits before after status (inr x) some = grind arith
