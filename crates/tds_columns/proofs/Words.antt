-- The words that the proofs of this crate share.
pub use Rattle.byteorder.specs.Endian.{little_number}
pub use Rattle.std.proofs.Common.{get_or, add-zero, ◌≡◌, ℕ, ◌+◌, ◌/◌, ◌%◌, ◌<◌, List, [], ◌∷◌, ◌++◌, length, take, take_all, arith, length-take-le, ◌-◌, ◌*◌}
pub use Rattle.std.proofs.Common.{◌≤◌, refl, ap, append_assoc, append-nil, length-append, ◌≢◌, true, sym, ◌∙◌, drop, max, le_refl, zero, suc, drop-cons}
pub use Rattle.std.proofs.Common.{length-drop, rules}
pub use Rattle.std.proofs.Math.Seq.{get_or-append_seam, drop-append_seam, take-append_seam}
pub use Rattle.std.proofs.lemmas.Bool.{ne_eqb, and_parts}
pub use Rattle.std.proofs.lemmas.Bool.Decides.{nat_tests}
pub use Rattle.std.proofs.lemmas.Grind.{common_steps}
pub use Rattle.std.proofs.lemmas.List.{nil_from_length}
pub use Rattle.std.specs.Prelude.{is_some, slice_index, Some, None, ◌==◌, Option, unwrap_or, if◌then◌else◌, Result, Ok, Err, MatchResult, is_ok}
pub use Rattle.tds_columns.specs.Description.{first_of_two, too_long, Column, SpellsColumn, SpellsColumns, SpellsDescription, ColumnHead, NameCount}
pub use Rattle.tds_columns.specs.Description.{DescriptionPart, BeforeCount, InColumn, WholeDescription, with_column, with_count, with_type, with_units}
pub use Rattle.tds_columns.specs.Description.{count_fault, description, ColumnPlace, ColumnInfo, NameUnits, NoDescription, add_described, type_fault}
pub use Rattle.tds_columns.specs.Description.{description_bytes, described_size, described_end, described_fault, span, head_fault}
pub use Rattle.tds_columns.specs.Elements.{TakesInto, EndsInto}
pub use Rattle.tds_columns.specs.Gather.{Describes, DescribesAll, GatherStops, StopsDescribing}
pub use Rattle.tds_columns.specs.ReturnedType.{KnownType, StopsType, TypeHead, TypeRest, WereTaken, returned_type, with_type_byte}
pub use Rattle.tds_columns.specs.View.{are_columns, column_at, column_size, columns_in, columns_of, is_column, is_described, name_size, rest_size}
pub use Rattle.tds_columns.specs.declared.metadata.Described.TheVariants.{Columns}
pub use Rattle.tds_meter.proofs.Overwriting.{grown}
pub use Rattle.tds_meter.specs.Space.{Space, appended, holding}
pub use Rattle.tds_packet.proofs.Choices.{choose_false, choose_true, choose, eq_true, eq_false, is_some_value, le_true, test_le}
pub use Rattle.tds_packet.proofs.ElementLaws.{Spelt-step, Spelt-append, Spelt-none, Spelt-induct, AreBytes-front, AreBytes-back, one_state, refused_for_good}
pub use Rattle.tds_packet.proofs.Passing.{passed}
pub use Rattle.tds_packet.proofs.Steps.{cut_at_once, reads_one, refused_at_once, reads_both, stops_after, reads_none}
pub use Rattle.tds_packet.specs.Elements.{AreBytes, Spelt, IsNext, Grammar}
pub use Rattle.tds_packet.specs.PayloadView.{PayloadView, Takes}
pub use Rattle.tds_packet.specs.Payloads.{IsOnSame, IsGoing, seen}
pub use Rattle.tds_packet.specs.Reading.{Reads, StopsReading}
pub use Rattle.tds_packet.specs.declared.fault.Fault.{Fault}
pub use Rattle.tds_packet.specs.declared.fault.Fault.TheVariants.{MessageEnded, BadTypeInfo}
pub use Rattle.tds_packet.specs.declared.fault.Place.TheVariants.{Payload}
pub use Rattle.tds_packet.specs.declared.fault.Stop.{Stop}
pub use Rattle.tds_values.proofs.TypeInfoLemmas.{bare_type}
pub use Rattle.tds_values.specs.Kind.{is_valid}
pub use Rattle.tds_values.specs.Numbers.{little}
pub use Rattle.tds_values.specs.TypeInfo.{IsTypeInfo, rest_length, kind_of, named_kind}
pub use Rattle.tds_values.specs.declared.kind.Kind.{Kind}
