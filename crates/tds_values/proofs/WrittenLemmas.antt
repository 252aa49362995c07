-- What the bytes of a kind spell is written, or its fault answered.
use Rattle.tds_values.proofs as N
use N.{List, arith, ℕ, ◌%◌, ◌++◌, ◌/◌, ◌^◌, ◌≡◌, ◌≤◌}
use Rattle.tds_values.specs.declared.scalar.ScalarValue.TheVariants as values

-- whole seconds tell whether they lie in a day
pub time_by_seconds : (scale units : ℕ) → scale ≤ 7 → N.nat_lt (units / 10 ^ scale) 86400 ≡ N.is_time scale units
time_by_seconds scale units s =
    let some = N.one-le-pow scale 10 (omega arith) in
    grind (arith, (N.div_below units (10 ^ scale) 86400 some), (N.le-div 86400 units (10 ^ scale) some))

-- the text of a local time by its seconds
pub local_spelt : (scale units day seconds l : ℕ) (offset : N.ℤ) → seconds ≡ units / 10 ^ scale → N.local_seconds seconds day offset ≡ N.Some l
    → N.date_and_time (l / 86400) (N.seconds_text (l % 86400) ++ N.fraction_text scale units) ++ N.codes " " ++ N.offset_text offset ≡ N.text_of
    (values.DateTimeOffset scale units day offset)
local_spelt scale units day seconds l offset es some =
    cc (N.LocalLemmas.text_of_seconds scale l units, N.LocalLemmas.units_of_seconds scale units day l offset (rw es at some))

-- a local time and its offset, written one after the other
pub local_joined : (day scale units part : ℕ) (time offset : List ℕ) {xs ys zs : List ℕ} → part ≡ units % 10 ^ scale
    → xs ≡ N.date_and_time day (time ++ N.fraction_text scale part) → ys ≡ xs ++ N.codes " " → zs ≡ ys ++ offset
    → zs ≡ N.date_and_time day (time ++ N.fraction_text scale units) ++ N.codes " " ++ offset
local_joined day scale units part time offset e first second third = grind (arith, N.DigitLemmas.fraction_rest)

-- what is answered, for a caller
pub answered : (read : N.Result N.ScalarValue N.ValueFault) (answer : N.Result ℕ N.ValueFault) (new : List ℕ) → N.IsWritten read answer new
    → N.IfOk answer (λ n. (value : N.ScalarValue) × ((read ≡ N.Ok value) × N.IsText value n new))
answered read answer new h = grind arith

-- a kind that equals another is written as that is
pub written_as : (kind other : N.Kind) (bytes new : List ℕ) (answer : N.Result ℕ N.ValueFault) → kind ≡ other → N.IsWritten (N.read_of other bytes) answer new
    → N.IsWritten (N.read_of kind bytes) answer new
written_as kind other bytes new answer e h = rw e h
