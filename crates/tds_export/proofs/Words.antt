-- The words that the proofs of this crate share.
use Rattle.std.proofs as base_laws
use Rattle.std.specs as base
use Rattle.tds_meter.specs as meter
use Rattle.tds_values.proofs as values_laws
use Rattle.tds_values.specs as values
use Rattle.tds_packet.proofs as packet_laws
use Rattle.tds_packet.specs as packet
use Rattle.tds_columns.proofs as columns_laws
use Rattle.tds_columns.specs as columns
use Rattle.tds_text.proofs as text_laws
use Rattle.tds_text.specs as text
use Rattle.tds_csv.proofs as csv_laws
use Rattle.tds_csv.specs as csv
use Rattle.tds_cells.proofs as cells_laws
use Rattle.tds_cells.specs as cells
use Rattle.tds_rows.specs as rows
use Rattle.tds_export.specs as export
unfoldable pub use Rattle.{
  std.specs.{Char.{encode_utf8, Utf16.utf16_chars}, Fmt.digits, Str.{is_utf8, chars, Lossy.{utf8_valid_len, utf8_error_len}}},
  hex.specs.Hex.encode_with,
  uuid.proofs.OnLiterals.uuid_on_literals,
  tds_values.specs.{Calendar.date_of, TypeInfo.{rest_length, named_kind}},
  tds_packet.{proofs.ElementLaws.Told, specs.Coming.{front_packet, message}},
  tds_columns.specs.Description.refused_kind,
  tds_export.specs.Exports.Tells,
}
pub use base_laws.Common.{◌≡◌, ◌∙◌, inl, inr, ℕ, ◌+◌, ◌≤◌, List, [], ◌∷◌, ◌++◌, length, take, drop, refl, sym, ap, subst, arith, append_assoc, append-nil}
pub use base_laws.Common.{take-append-drop, Result, Ok, Err, ◌-◌, ◌^◌, ◌<◌, Bool, false, length-append, zero, suc, ◌%◌, true, replicate, Option, ◌*◌}
pub use base_laws.Common.{slice_index, map, ◌⊎◌, MatchResult, length-take, ◌/◌, length-drop, max, take-add, drop-cons, length-take-le, rules}
pub use base_laws.Common.{take_all, zero-add}
pub use base_laws.KnownBytes.{Consumes-nil}
pub use base_laws.Math.Seq.{take-append_seam, drop-append_seam, take-append-add}
pub use base_laws.lemmas.Bool.{ne_eqb, agree_below, agree_below_at}
pub use base_laws.lemmas.Bool.Decides.{nat_tests}
pub use base_laws.lemmas.Grind.{flat_map-append, common_steps}
pub use base_laws.lemmas.List.{length-replicate, length-map, map-append, drop-drop, take-append-le}
pub use base_laws.lemmas.Str.{utf8_valid_len_le}
pub use base.Int.{cast_signed, w32, cast_unsigned}
pub use base.Io.KnownBytes.{Appends, Consumes}
pub use base.Prelude.{◌==◌, is_ok, is_some, Some, None, ◌&&◌, not, nat_lt, if◌then◌else◌, IsTrue, encode_utf8_all, ⊤, ℤ, option_map, IfOk}
pub use base.Result.{IsErrAnd}
pub use Rattle.byteorder.specs.Endian.{little_number, little_from}
pub use Rattle.byteorder.specs.Numbers.{little_from-lt}
pub use Rattle.hex.proofs.HexLemmas.{length-encode_with}
pub use meter.Counts.{one_more, counted}
pub use meter.Rooms.{AreEmptied, is_intact}
pub use meter.Space.{Space, appended, empty}
pub use meter.declared.areas.Areas.{Areas}
pub use values_laws.TextLengths.{length-text_of}
pub use values_laws.TypeInfoLemmas.{bare_type, valid_of, rest_length_of}
pub use values.Kind.{is_scalar, is_valid, is_length_allowed}
pub use values.Numbers.{little}
pub use values.Scalar.{read_of, checked, value_of}
pub use values.ScalarText.{text_of, FitsWidths}
pub use values.TimeOfDay.{time_length}
pub use values.TypeInfo.{kind_of, IsTypeInfo}
pub use values.declared.charset.Charset.{Charset}
pub use values.declared.charset.Charset.TheVariants.{Windows1252, Utf8}
pub use values.declared.kind.Kind.{Kind}
pub use values.declared.kind.Kind.TheVariants.{Guid, Time, DateTime2, DateTimeOffset, Int4}
pub use values.declared.scalar.ScalarValue.{ScalarValue}
pub use values.declared.scalar.ValueFault.{ValueFault}
pub use packet_laws.Choices.{choose, choose_false, eq_true, eq_false, test_lt, is_some_value}
pub use packet_laws.ElementLaws.{Spelt-induct, feed-Spelt, feed_all-append, longest_cut, one_longest, read_longest, told, Spelt-append, Spelt-step, Spelt-none}
pub use packet_laws.ElementLaws.{Inside, Inside-Spelt, AreBytes-front, AreBytes-back, longest_refused, Spelt-one, some_longest, one_state, refused_for_good}
pub use packet_laws.ElementLaws.{no_further}
pub use packet_laws.Feeding.{Reading, read, state_of, rest_of, fault_of}
pub use packet_laws.Fronts.{BeginsMessage, EndsMessage, StopsAfterPackets, in_last, takes_begins, ends_front, over_front}
pub use packet_laws.Futures.{Ends-after, Takes-none, Takes-trans}
pub use packet_laws.InnerGrammars.{reads_inside, stops_inside, last_inside}
pub use packet_laws.Joins.{Stays-none}
pub use packet_laws.MessageLaws.{after_packets as after_last, one_message, read_to_end, message_is_read}
pub use packet_laws.PacketLaws.{before_are_read, read_front}
pub use packet_laws.Passing.{passed}
pub use packet_laws.PayloadLaws.{between_of}
pub use packet_laws.Steps.{stops_after, takes_both, refused_at_once, cut_at_once, reads_both, reads_one, add_none}
pub use packet_laws.WireFaults.{IsOfWire, message_of_wire}
pub use packet.Coming.{Coming, before, whole_message}
pub use packet.Elements.{IsRefused, Longest, Spelt, AreBytes, IsNext, Grammar}
pub use packet.Packets.{AreBefore, BeforeBody, BeforeHeader, AfterLast, Message, Packet, WirePart, WirePlace, header_length, no_wire, payload_of}
pub use packet.Packets.{wire, wire_add, wire_of, with_packet, AreMessage}
pub use packet.PayloadView.{PayloadView, Takes, Ends, began_at, begun, IsOver, IsBetween}
pub use packet.Payloads.{seen, buffered}
pub use packet.Reading.{StopsReading, RefusesNext, Reads, CutsNext}
pub use packet.declared.fault.Fault.{Fault}
pub use packet.declared.fault.Fault.TheVariants.{BadNotice, BadValue, BadText, OddText, PlpLength, BadTypeInfo, ReadFailed, WriteFailed, MessageEnded}
pub use packet.declared.fault.Fault.TheVariants.{NoColumns, DescriptionTooLong, RefusedToken, EndWithoutDone, BadValueLength, RefusedColumn, RowWithoutColumns}
pub use packet.declared.fault.Fault.TheVariants.{UnknownType}
pub use packet.declared.fault.Place.{Place}
pub use packet.declared.fault.Place.TheVariants.{Wire, Payload, Text}
pub use packet.declared.fault.RefusedKind.TheVariants.{Flt8, FltN}
pub use packet.declared.fault.Stop.{Stop}
pub use columns_laws.ByteLemmas.{one_byte, two_bytes, split_last}
pub use columns_laws.ColumnLaws.{columns_are_read, description_is_read, byte_and_rest}
pub use columns_laws.ColumnMeaning.{not_long, not_zero, room_for, known_type, some_kind, DescribedMeans, described_step}
pub use columns_laws.ElementSteps.{cut_into, refused_into}
pub use columns_laws.ViewLaws.{description_shows}
pub use columns.Description.{Column, SpellsColumn, SpellsColumns, ColumnPlace, ColumnHead, ColumnInfo, NameCount, NameUnits, DescriptionPart, BeforeCount}
pub use columns.Description.{NoDescription, InColumn, WholeDescription, with_column, with_kind, add_described, description}
pub use columns.Elements.{TakesInto, EndsInto}
pub use columns.Gather.{Describes, StopsDescribing}
pub use columns.ReturnedType.{return_column, KnownType, NoType, ReadsType, StopsType, TypeHead, TypePart, TypeRest, returned_type, with_known}
pub use columns.View.{columns_of, IsDescription}
pub use columns.Walking.{columns_left}
pub use text_laws.Characters.{doubled_length}
pub use text_laws.JoiningLemmas.{doubled-append}
pub use text_laws.WideText.{length-units}
pub use text.Conversion.{Conversion, Utf8Text, unit, HexDigits, conversion_rest, conversion_text, long_field, open_field, Utf16Text}
pub use text.Cutting.{whole_within}
pub use text.Joining.{emit}
pub use text.Quoting.{doubled, quote, joined, line, line_end}
pub use text.Utf16.{characters}
pub use csv_laws.Puttings.{PutsPiece-none, PutsPiece-trans}
pub use csv_laws.Sinks.{Puts-none, Adds-trans}
pub use csv_laws.Streams.{breaks_after, breaks_inside, puts_both, puts_inside}
pub use csv.Sinks.{SinkView, Finishes, held, WritesPrefix, Puts, IsWriting, PutsPiece, Adds, FinishesSink}
pub use csv.Streaming.{PutsText, StopsStreaming, Streams, WritesPrefixStreaming}
pub use csv.declared.sink.Sink.{Sink}
pub use cells_laws.CellLaws.{cell_is_read}
pub use cells_laws.CellMeaning.{CellMeans, cell_step, start_means, is_ok_value}
pub use cells_laws.GrowingTexts.{joined_more, Grows, grows_all, grows_same, grows_trans, grows_under, row_grows}
pub use cells_laws.RowLaws.{cell_in_row, begins_open, row_is_read, nbc_row_is_read}
pub use cells_laws.RowMeaning.{RowMeans, row_step, row_start_means}
pub use cells_laws.RowTexts.{start_quiet, joined_snoc}
pub use cells.Cells.{Cell, Null, ScalarCell, DataCell, shape, CellPart, ScalarBytes, ScalarLength, ShortLength, ShortData, Total, ChunkLength, ChunkData}
pub use cells.Cells.{WholeCell, cell_start, cell_add, cell, is_total, return_charset, field}
pub use cells.Rows.{RowPart, WholeRow, row, marked, bit, bitmap_length, Bitmap, InCell, next_cell, with_cell, row_start, NbcRow, PlainRow, row_so_far, RowToken}
pub use cells.Runs.{RowsPart, lines, rows, rows_so_far}
pub use Rattle.tds_rows.proofs.Successes.{rose}
pub use rows.PassedCells.{PassesCell, StopsPassing}
pub use rows.RowSteps.{ReadsRows, RowsStop}
pub use export.Completion.{zeros, zero_chunks, terminator, rest_of_chunks, rest_of_cell, int_column, int_columns, least_info, rest_of_description, rest_of_row}
pub use export.Completion.{rest_of_return, rest_of_token, completion, CanBeCompleted, rest_of_return_head, rest_of_cells, all_clear}
pub use export.Exporters.{View, IsRunning, LeavesRun, StepRead, ReadsNext, StopsIn, view_of, FindsEnd}
pub use export.Exports.{StopsExport, begun_at, fresh_at, Reports, IsReader, IsWriter, FlushedOrFailed, stopped_with}
pub use export.Moments.{Run, ExportInput, grammar_of, limits_of, FailsToRead, FailsToWrite, limits, run_of, text_put, moment}
pub use export.Noticing.{ReadsNotice, StopsInNotice}
pub use export.Outcome.{Outcome, IsAccepted, Packets, Stops, SucceedsIfAccepted, grammar, server_error, signed, IsKept, Keeps, StopsInPayload, StopsOnWire}
pub use export.Outcome.{Answer, Bounded, ReadsPart, Reported, StopsInText, Comes}
pub use export.Response.{Accepted, Response, SpellsNotice, StartsToken, IsFirst, SpellsBody, SpellsRowToken, SpellsToken, SpellsTokens}
pub use export.ReturnValue.{ReturnPart, WholeReturn, return_add, return_value, ReturnValue, ReturnOrdinal, ReturnNameCount, ReturnName, ReturnHead, ReturnInfo}
pub use export.ReturnValue.{InReturnCell, with_value, with_return_kind, return_fault, SpellsReturnName, SpellsReturnValue, with_return_type, with_return_units}
pub use export.ReturnValue.{return_size}
pub use export.Returning.{ReadsReturn, ReadsValue, StopsReturn, before_value}
pub use export.Steps.{Reflects, after_tokens, IsHolding, ReadsTokens, StepStops, TracksBefore, in_length, RunStops, CompletesResponse, IsNoted, description_of}
pub use export.Steps.{StopsInWriting, ReadsWhole, in_return, IsDescribed, Tracks, IsUnder, in_lead, lead, in_fields, in_metadata, in_row}
pub use export.TokenBytes.{Bodied, APassed, AnError, AnInfo, ADone, Lead, done_byte, lead_of, Fixed, AStatus, ADoneInProc, AMetadata, ARow, AnNbcRow, WithBody}
pub use export.TokenBytes.{WithFields, AReturn, is_row_lead}
pub use export.TokenGrammar.{Part, response_start, TokenBody, TokenLength, bodied, holds_notice, is_notice, part_fault, response, with_token, Open, Between}
pub use export.TokenGrammar.{Describing, Fields, InRow, InReturn, with_described, with_row, with_return, start_of_row, after_first, part_add, server_at}
pub use export.TokenGrammar.{procedure_at, line_at, notice_of, text_so_far, lead_fault, row_byte_fault, span_so_far, open_span, open_text, after_lead}
pub use export.Tokens.{Token, text, Metadata, Row, Returned, Done, described_after, fields_length, fixed, name_field, Notice, Error, Info, first_error}
pub use export.Tokens.{how_many, is_error, NoMetadata, greatest_span, text_after, PassedOver, ReturnStatus, DoneInProc, more, is_final, encoded_after}
pub use export.Tokens.{header_line, between, is_return, is_set, return_status_after}
pub use export.declared.exporter.Exporter.{Exporter}
pub use export.declared.progress.Progress.{Progress}
pub use export.declared.report.Report.{Report}
pub use export.declared.report.ServerError.{ServerError}
pub use export.declared.report.Stopped.{Stopped}
