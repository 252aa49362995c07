-- Reports that come one after another, and the status that they end with.
use Rattle.std.proofs.Common.{◌≡◌, ◌∙◌, ◌+◌, ◌-◌, ◌^◌, ◌≤◌, ℕ, List, [], ◌∷◌, ◌++◌, length, Bool, Option, None, Ok, true, false, ◌||◌, if◌then◌else◌, refl, sym}
use Rattle.std.proofs.Common.{ap, subst, arith, ◌<◌, length-append}
use Rattle.std.proofs.lemmas.Bool.{ne_eqb}
use Rattle.std.proofs.lemmas.List.Folds.{list_any-append}
use Rattle.std.specs.Prelude.{IsTrue}
use Rattle.std.specs.List.{list_any}
use Rattle.tds_meter.specs.Rooms.{is_intact}
use Rattle.tds_values.specs.declared.charset.Charset.{Charset}
use Rattle.tds_export.specs.declared.report.Report.{Report}
use Rattle.tds_export.specs.declared.report.Stopped.{Stopped}
use Rattle.tds_replay.specs.declared.responses.Ran.{Ran}
use Rattle.tds_replay.specs.declared.status.Status.{Status}
use Rattle.tds_replay.specs.declared.status.Status.TheVariants.{Done, ServerError}
use Rattle.tds_replay.specs.Exporting.{Standing, Telling}
use Rattle.tds_replay.specs.Responses.{EndsAfter, Reports, ReturnsNext, RunsTo, has_error, status_of_all}

-- one more report
pub Reports-snoc : {R W N : Type 0} (tell : Telling R W N) (charset : Charset) (a b c : Standing R W N) (reports : List Report) (report : Report)
    → Reports tell charset a reports b → ReturnsNext tell charset b c (Ok report) → Reports tell charset a (reports ++ report ∷ []) c
Reports-snoc tell charset a b c [] report is next = (c, subst (λ s. ReturnsNext tell charset s c (Ok report)) is next, refl)
Reports-snoc tell charset a b c (r ∷ rs) report is next = (is.0, is.1, Reports-snoc tell charset is.0 b c rs report is.2 next)

status_of_two : (a b : Bool) → (if a || (b || false) then ServerError else Done) ≡ (if b then ServerError else if a then ServerError else Done)
status_of_two = grind arith

pub status-snoc : (reports : List Report) (report : Report)
    → status_of_all (reports ++ report ∷ []) None ≡ (if has_error report then ServerError else status_of_all reports None)
status-snoc reports report =
    ap (λ b. if b then ServerError else Done) (list_any-append has_error reports (report ∷ [])) ∙ status_of_two (list_any has_error reports) (has_error report)

-- the status with an error, and without one
pub with_error : (report : Report) (status : Status) → 0 < report.errors → ServerError ≡ (if has_error report then ServerError else status)
with_error = grind (arith, ne_eqb)

pub without_error : (report : Report) (status : Status) → report.errors ≤ 0 → status ≡ (if has_error report then ServerError else status)
without_error = grind arith

-- this many reports came, and this is the status that they end with
pub record ReportsSo {R W N : Type 0} (tell : Telling R W N) (charset : Charset) (old new : Standing R W N) (responses : ℕ) (status : Status) : Type 0
  where
    pub reports : List Report
    pub reported : Reports tell charset old reports new
    pub responses_are : responses ≡ length reports
    pub status_is : status ≡ status_of_all reports None
    pub intact : IsTrue (is_intact new.areas)

module _ {R W N : Type 0} (tell : Telling R W N) (charset : Charset) (a b : Standing R W N) (n : ℕ) (status : Status)
    (so : ReportsSo tell charset a b n status) where
  -- one more report
  pub reports_more : (c : Standing R W N) (report : Report) (status' : Status) → ReturnsNext tell charset b c (Ok report)
      → status' ≡ (if has_error report then ServerError else status) → IsTrue (is_intact c.areas) → ReportsSo tell charset a c (n + 1) status'
  reports_more c report status' next is intact = record {
    reports = so.reports ++ report ∷ [];
    reported = grind (arith, Reports-snoc);
    responses_are = grind (arith, length-append);
    status_is = grind (arith, status-snoc);
    intact = intact;
  }

  -- the end of a run, with this stop or none
  pub runs_to : (c : Standing R W N) (stop : Option Stopped) (ran : Ran) → EndsAfter tell charset n stop b c → n ≤ 2 ^ 64 - 1 → ran.responses ≡ n
      → ran.status ≡ status_of_all so.reports stop → RunsTo tell charset a c ran
  runs_to c stop ran ends least n_is status_is =
      let ends_after : EndsAfter tell charset (length so.reports) stop b c = grind arith in (
        so.reports,
        stop,
        record { middle = b; reported = so.reported; ends = ends_after; counted = grind arith },
        n_is ∙ so.responses_are,
        status_is,
      )
