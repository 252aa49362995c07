-- The words that the proofs of this crate share.
pub use Rattle.std.proofs.Common.{◌≡◌, ◌∙◌, inl, inr, ℕ, ◌+◌, ◌-◌, ◌<◌, ◌≤◌, ◌%◌, true, false, List, [], ◌∷◌, ◌++◌, length, take, refl, sym, ap, subst, arith}
pub use Rattle.std.proofs.Common.{append_assoc, append-nil, length-append, IsUtf8, take_all, ◌/◌, drop, length-drop, length-take-le, encode_utf8_all, Bool}
pub use Rattle.std.proofs.Common.{Result, Ok, Err, MatchResult, ◌^◌, OnErr, ◌⊎◌, ◌*◌, rules}
pub use Rattle.std.proofs.KnownBytes.{Appends-nil}
pub use Rattle.std.proofs.Math.Seq.{take-append-add, drop-append-add, take-append_seam, drop-append_seam}
pub use Rattle.std.proofs.lemmas.Grind.{common_steps}
pub use Rattle.std.proofs.lemmas.List.{take-append-le, take-append-drop, take-take, take_at, drop-append-le, append_cancel_left, nil_from_length}
pub use Rattle.std.proofs.lemmas.Str.{IsUtf8-nil, encode_same, utf8_valid_len-IsUtf8, IsUtf8-append, IsUtf8-encode}
pub use Rattle.std.specs.Char.{encode_utf8, IsScalar}
pub use Rattle.std.specs.Io.KnownBytes.{Appends, append_known}
pub use Rattle.std.specs.List.{concat}
pub use Rattle.std.specs.Prelude.{Option, ◌↔◌, if◌then◌else◌}
pub use Rattle.std.specs.Result.{IsErrAnd}
pub use Rattle.tds_text.specs.Cutting.{whole_within}
pub use Rattle.tds_text.specs.Joining.{emit, Leads}
pub use Rattle.tds_text.specs.Quoting.{doubled, after_comma}
pub use Rattle.tds_text.specs.Utf16Next.{seam}
pub use Rattle.tds_csv.specs.Pushing.{EndsPieces, PushesPiece, Pushes, TakesPiece, TakesUpTo}
pub use Rattle.tds_csv.specs.Sinks.{WritesPrefix, SinkView, Puts, PutsPiece, IsWriting, held, Adds, Sends, FinishFails}
pub use Rattle.tds_csv.specs.Spare.{held_before, KeepsPiece, with_spare}
pub use Rattle.tds_csv.specs.Streaming.{WritesPrefixStreaming, PutsText, Streams, StopsStreaming}
pub use Rattle.tds_csv.specs.declared.joiners.JoinFault.{JoinFault}
pub use Rattle.tds_csv.specs.declared.joiners.JoinFault.TheVariants.{Stopped, Odd, BadText}
pub use Rattle.tds_csv.specs.declared.sink.Sink.{Sink}
pub use Rattle.tds_meter.proofs.Overwriting.{overwritten_all}
pub use Rattle.tds_meter.specs.Counts.{counted, one_more}
pub use Rattle.tds_meter.specs.Lent.{overwritten}
pub use Rattle.tds_meter.specs.Space.{Space, appended}
pub use Rattle.tds_packet.proofs.ElementLaws.{Inside, Inside-Spelt, Spelt-append, Spelt-one, Spelt-none}
pub use Rattle.tds_packet.proofs.Futures.{Takes-more}
pub use Rattle.tds_packet.proofs.InnerGrammars.{LastInside, last_inside, next_inside, next_some}
pub use Rattle.tds_packet.proofs.Steps.{takes_both, stops_after, takes_ahead}
pub use Rattle.tds_packet.specs.Elements.{Grammar, IsNext, Spelt}
pub use Rattle.tds_packet.specs.PayloadView.{PayloadView, Takes, IsBetween}
pub use Rattle.tds_packet.specs.Reading.{StopsReading}
pub use Rattle.tds_packet.specs.declared.fault.Fault.{Fault}
pub use Rattle.tds_packet.specs.declared.fault.Stop.{Stop}
pub use lib.Seq.{take-add}
pub use native.Mathlib.Decide.{dec_le}
