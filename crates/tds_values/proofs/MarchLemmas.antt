-- Dates by years that begin on 1 March.
use Rattle.tds_values.proofs as N
use N.{Bool, arith, false, refl, true, ℕ, [], if◌then◌else◌, ◌++◌, ◌+◌, ◌-◌, ◌<◌, ◌==◌, ◌∷◌, ◌≡◌, ◌≤◌}
use Rattle.tds_values.specs.Calendar.{since_march}
use Rattle.tds_values.specs.ScalarText.{date_text, day_text, march_text}
use Rattle.std.specs.Prelude.{nat_le, ◌&&◌}

abbrev leap_day : Bool → ℕ
leap_day leap = if leap then 1 else 0

abbrev lengths : Bool → N.List ℕ
lengths leap = 31 ∷ (if leap then 29 else 28) ∷ 31 ∷ 30 ∷ 31 ∷ 30 ∷ 31 ∷ 31 ∷ 30 ∷ 31 ∷ 30 ∷ 31 ∷ []

-- the day that comes k days after 1 March is one of the calendar, and so many days of its year come before it
abbrev is_day : Bool → ℕ → ℕ → Bool
is_day leap before k =
    let m = (since_march k).0 in
    let d = (since_march k).1 in
    nat_le 1 m && nat_le m 12 && nat_le 1 d && nat_le d (N.get_or (lengths leap) (m - 1) 0)
    && (N.sum (N.take (m - 1) (lengths leap)) + (d - 1) == before)

late : (leap : Bool) (k : ℕ) → k < 306 → is_day leap (59 + leap_day leap + k) k ≡ true
late true k h = N.agree_below_at (λ k. is_day true (60 + k) k) (λ _. true) 306 k refl h
late false k h = N.agree_below_at (λ k. is_day false (59 + k) k) (λ _. true) 306 k refl h

early : (leap : Bool) (k : ℕ) → k < 59 + leap_day leap → is_day leap k (306 + k) ≡ true
early true k h = N.agree_below_at (λ k. is_day true k (306 + k)) (λ _. true) 60 k refl h
early false k h = N.agree_below_at (λ k. is_day false k (306 + k)) (λ _. true) 59 k refl h

unpacked : (m d most counted before : ℕ) → (nat_le 1 m && nat_le m 12 && nat_le 1 d && nat_le d most && (counted == before)) ≡ true
    → (1 ≤ m) × (m ≤ 12) × (1 ≤ d) × (d ≤ most) × (counted ≡ before)
unpacked m d most counted before h = grind (arith, N.nat_tests)

in_year : (n y before k : ℕ) → 1 ≤ y → is_day (N.is_leap_year y) before k ≡ true → n ≡ N.days_before_year y + before
    → N.IsDateOf n (record { year = y; month = (since_march k).0; day = (since_march k).1 })
in_year = grind (arith, unpacked)

year_length : (y : ℕ) → 1 ≤ y → N.days_before_year (y + 1) ≡ N.days_before_year y + 365 + leap_day (N.is_leap_year y)
year_length y some = grind (arith, N.nat_tests)

-- the date of a day in such a year
march_date : (n y k : ℕ) → k < 366 → N.days_before_year (y + 1) + k ≡ n + 306 → n + 306 < N.days_before_year (y + 2)
    → N.IsDateOf n (record { year = y + (if N.nat_lt k 306 then 0 else 1); month = (since_march k).0; day = (since_march k).1 })
march_date n y k few e within = N.⊎_elim
    (λ h.
    let same : y + (if N.nat_lt k 306 then 0 else 1) ≡ y = grind (arith, N.nat_tests) in
    let some : 1 ≤ y = omega arith in
    let number : n ≡ N.days_before_year y + (59 + leap_day (N.is_leap_year y) + k) = omega (arith, year_length y some) in
    let there = in_year n y (59 + leap_day (N.is_leap_year y) + k) k some (late (N.is_leap_year y) k h) number in
    rw same there)
    (λ h.
    let same : y + (if N.nat_lt k 306 then 0 else 1) ≡ y + 1 = grind (arith, N.nat_tests) in
    let some : 1 ≤ y + 1 = omega arith in
    let here : 306 + (k - 306) ≡ k = omega arith in
    let short : k - 306 < 59 + leap_day (N.is_leap_year (y + 1)) = omega (arith, year_length (y + 1) some) in
    let number : n ≡ N.days_before_year (y + 1) + (k - 306) = omega arith in
    let there = in_year n (y + 1) (k - 306) k some (rw here at (early (N.is_leap_year (y + 1)) (k - 306) short)) number in
    rw same there)
    (N.cases_lt k 306)

pub march_date_text : (n y k : ℕ) → k < 366 → N.days_before_year (y + 1) + k ≡ n + 306 → n + 306 < N.days_before_year (y + 2)
    → date_text n ≡ N.last_digits 4 (y + (if N.nat_lt k 306 then 0 else 1)) ++ march_text k
march_date_text n y k few e within =
    N.ap (λ d. N.last_digits 4 d.year ++ day_text d.month d.day) (N.sym (N.CalendarLemmas.only_date n _ (march_date n y k few e within)))
