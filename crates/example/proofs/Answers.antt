-- What an export tells of a response whose bytes are known.
use Rattle.std.specs.Prelude.{◌≡◌, ◌++◌, ℕ, List, Option, Some, None, Result, Ok, Err, IfOk}
use Rattle.std.specs.Io.KnownBytes.{Appends}
use Rattle.std.proofs.Common.{◌∙◌, ap, subst}
use Rattle.tds_packet.specs.Elements.{AreBytes}
use Rattle.tds_values.specs.declared.charset.Charset.TheVariants.{Windows1252}
use Rattle.tds_export.specs.declared.report.Report.{Report}
use Rattle.tds_export.specs.declared.report.Stopped.{Stopped}
use Rattle.tds_export.specs.Exports.{Tells}
use Rattle.tds_export.specs.Moments.{Moment, given_of}
use Rattle.example.specs.Exported.{Exported}

-- what a writer has that told its bytes, and gained some
known_has : (old new : Option (List ℕ)) (had gained : List ℕ) → old ≡ Some had → Appends old new gained → new ≡ Some (had ++ gained)
known_has old None had gained e a = absurd (subst (λ o. Appends o None gained) e a)
known_has old (Some has) had gained e a = ap Some (subst (λ o. Appends o (Some has) gained) e a)

-- Where reader and writer tell their bytes, a report says that all of the response was exported.
pub report_exports : (before after : Moment) (bytes had : List ℕ) (report : Report) → Tells (given_of Windows1252 before after) (Ok report) →
    AreBytes bytes → before.reader.bytes ≡ Some bytes → before.writer.bytes ≡ Some had
    → Exported before.areas.limits bytes had after.writer.bytes report
unfolding Tells
report_exports before after bytes had report tells are e1 e2 =
    let told = tells bytes are e1 in
    let reported = told.4.outcome in
    record {
      tokens = reported.tokens;
      packets = reported.packets;
      accepted = reported.accepted;
      report_is = reported.report_is;
      text_is = known_has before.writer.bytes after.writer.bytes had told.1 e2 told.3 ∙ ap (λ gained. Some (had ++ gained)) reported.written;
    }

-- The same of each answer.
pub answer_exports : (before after : Moment) (bytes had : List ℕ) (result : Result Report Stopped)
    → Tells (given_of Windows1252 before after) result →
    AreBytes bytes → before.reader.bytes ≡ Some bytes → before.writer.bytes ≡ Some had
    → IfOk result (Exported before.areas.limits bytes had after.writer.bytes)
answer_exports before after bytes had (Ok report) tells are e1 e2 = report_exports before after bytes had report tells are e1 e2
answer_exports before after bytes had (Err stopped) tells are e1 e2 = tt
