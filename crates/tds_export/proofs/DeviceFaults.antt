-- Where an export stops with the fault of a device, the device's count of failures rose.
use Rattle.tds_export.proofs as N
use N.{Coming, Fault, List, Option, ReadFailed, Stop, [], ap, arith, before, if◌then◌else◌, inl, inr, read, ℕ, ◌++◌, ◌<◌}
use N.{◌≡◌}
use N.Words.{front_packet, message}

-- no fault, or one that is no device's
abbrev AtMostOfPayload : Option Fault → Type 0
AtMostOfPayload N.None = N.⊤
AtMostOfPayload (N.Some fault) = N.IsOfWire fault

if_payload : (b : N.Bool) (x y : Option Fault) → AtMostOfPayload x → AtMostOfPayload y → AtMostOfPayload (if b then x else y)
if_payload = grind arith

part_payload : (room : ℕ) (tokens : List N.Token) (at : N.Open) (e : List ℕ) → AtMostOfPayload (N.part_fault room tokens at e)
part_payload _ _ at e = grind (arith, if_payload)

-- ---- a payload that has just begun

-- what stops the reading of a response
abbrev ReadingFault : ℕ → ℕ → Fault → Type 0
ReadingFault before after fault = ((fault ≡ N.WriteFailed) → ⊥) × ((fault ≡ ReadFailed) → after ≡ N.one_more before)

-- a fault of which no device's is one
of_none : (before : ℕ) {after : ℕ} {fault : Fault} → N.IsOfWire fault → ReadingFault before after fault
of_none = grind arith

ends_blame : (size limit : ℕ) {failures : ℕ} (left : Option (List ℕ)) (b : N.PayloadView) {bytes : List ℕ} {own : Stop}
    → N.Ends (N.begun size limit left failures) b bytes own → ReadingFault failures b.failures own.fault
ends_blame _ _ _ b (inl x) = of_none _ (rw (← ap (λ (c : Coming). c.stop.fault) (x.2 [])) (N.message_of_wire _ _ _ 0 0 _))
ends_blame _ _ _ b (inr (inl x)) = of_none _ (grind (arith, N.message_of_wire))
ends_blame _ _ _ b (inr (inr x)) = (λ e. (cc), λ e. x.4.0)

reading_fault : (charset : N.Charset) (room size limit : ℕ) {failures : ℕ} {left : Option (List ℕ)} {b : N.PayloadView} {place : ℕ} {at : N.Part} {stop : Stop}
    → N.StopsReading (N.response charset room) N.response_start (N.begun size limit left failures) b place at stop → ReadingFault failures b.failures stop.fault
reading_fault _ _ _ _ {b} {at} x = elim x.cause [
  | inl y ↦ of_none _ (grind (arith, part_payload))
  | inr y ↦ elim y.stop_is [
    | inl z ↦ of_none _ (grind arith)
    | inr z ↦ rw (ap (λ (s : Stop). s.fault) z.1) (ends_blame _ _ _ b y.ends)
  ]
]

-- ---- an export

-- a device is blamed only where its count rose
abbrev Blamed : N.ExportInput → N.Stopped → Type 0
Blamed given stopped = (stopped.fault ≡ ReadFailed → N.FailsToRead given) × (stopped.fault ≡ N.WriteFailed → N.FailsToWrite given)

pub blamed : {given : N.ExportInput} {stopped : N.Stopped} → N.StopsExport given stopped → Blamed given stopped
blamed x = elim x.stops [
  | inl (inl y) ↦ (let r = reading_fault _ _ _ _ y.0.stops in grind arith)
  | inl (inr y) ↦ grind arith
  | inr y ↦ grind arith
]

-- ---- no device failed

-- an input of no byte is over before the message is
no_message : (size limit : ℕ) {c : Coming} → c.stop.fault ≡ N.MessageEnded → N.whole_message size limit [] ≡ c → ⊥
unfolding message front_packet
no_message = grind arith

-- to read a whole message takes a byte
some_read : (size limit : ℕ) {failures : ℕ} (left : Option (List ℕ)) (q : N.PayloadView) (bytes : List ℕ) {n : ℕ}
    (t : N.Takes (N.begun size limit left failures) q bytes n) → N.IsOver q → 0 < N.length t.0
some_read size limit _ q bytes t o = go t.0 t.1.1
  where
    go : (read : List ℕ) → ((zs : List ℕ) → N.whole_message size limit (read ++ zs) ≡ before bytes (q.future zs)) → 0 < N.length read
    go [] f = absurd (no_message _ _ (cc (o.2 [])) (f []))
    go _ f = omega arith

pub no_failure : (given : N.ExportInput) (report : N.Report) → N.Reports given report → (N.FailsToRead given → ⊥) × (N.FailsToWrite given → ⊥)
no_failure given _ x =
    let moved = some_read (N.limits_of given).packet_size (N.limits_of given).max_wire _ x.seen _ x.completes.whole.takes x.completes.whole.over in
    grind arith
