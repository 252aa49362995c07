-- The words that the proofs of this crate share.
pub use Rattle.std.proofs.Common.{Err, List, None, Ok, Option, Result, Some, [], ap, arith, inl, inr, length, map, refl, subst, sym, true, ℕ, ◌+◌, ◌++◌, ◌-◌}
pub use Rattle.std.proofs.Common.{◌<◌, ◌^◌, ◌∙◌, ◌∷◌, ◌≡◌}
pub use Rattle.std.proofs.Common.{◌≤◌, ◌⊎◌, false, append_assoc, append-nil, get_or, take, rules, SFits, w32, codes}
pub use Rattle.std.proofs.KnownBytes.{Appends-nil, Appends-trans}
pub use Rattle.std.proofs.lemmas.List.{append_cancel_left, length-map, length-append, take-append-drop, take-append-le, take_more}
pub use Rattle.std.proofs.Math.Seq.{take-append-add}
pub use Rattle.std.proofs.lemmas.Grind.{flat_map-append}
pub use Rattle.std.proofs.lemmas.Int.{to_z-of_z}
pub use Rattle.std.specs.Io.KnownBytes.{Appends, Keeps}
pub use Rattle.std.specs.Prelude.{IsErrAnd, OnErr, drop, is_ok, decimal}
pub use Rattle.std.specs.List.{concat}
pub use Rattle.tds_meter.specs.Counts.{last_count}
pub use Rattle.tds_meter.specs.declared.limits.Limits.{Limits}
pub use Rattle.tds_packet.proofs.ElementLaws.{AreBytes-back}
pub use Rattle.tds_packet.specs.Elements.{AreBytes}
pub use Rattle.tds_packet.specs.Filling.{IsAnswered, Rises, Stays, TellsInputEnd}
pub use Rattle.tds_packet.specs.Packets.{AreMessage, Packet, wire_of}
pub use Rattle.tds_packet.specs.declared.counted.Counted.{Counted}
pub use Rattle.tds_values.specs.declared.charset.Charset.{Charset}
pub use Rattle.tds_export.specs.Exports.{Reports as ReportsExport}
pub use Rattle.tds_export.specs.Moments.{FailsToRead, FailsToWrite, ExportInput, given_of, limits_of}
pub use Rattle.tds_export.specs.Tokens.{error_text, text}
pub use Rattle.tds_export.specs.declared.report.Report.{Report}
pub use Rattle.tds_export.specs.declared.report.Stopped.{Stopped}
pub use Rattle.tds_replay.specs.Exporting.{Devices, Standing, Telling, moment_of, standing, telling}
pub use Rattle.tds_replay.specs.Lines.{answer_lines, piece_text, text_of, shown_byte, error_line, status_line, values_line, byte_text}
pub use Rattle.tds_replay.specs.Performing.{PerformsAll}
pub use Rattle.tds_replay.specs.Responses.{AreAccepted, DeliversAccepted, EndsAfter, IsAccepted, Reports, ReturnsNext, RunsAll, Sent, StopsNext, lines_of}
pub use Rattle.tds_replay.specs.Responses.{report_on, texts_of, wires_of}
pub use Rattle.tds_replay.specs.Saying.{SaysOrFails, WritesText, AddsText, FailsToSay, Gathers, Says}
pub use Rattle.tds_replay.specs.declared.status.Status.{Status}
pub use Rattle.tds_replay.specs.declared.status.Status.TheVariants.{OutOfMemory, ServerError}
pub use Rattle.tds_replay.specs.declared.pieces.Piece.{Piece}
pub use Rattle.tds_replay.specs.declared.pieces.NoteFailed.{NoteFailed}
pub use Rattle.tds_replay.proofs.ReportSteps.{ReportsSo, reports_more, runs_to, with_error, without_error}
