-- The words that the proofs of this crate share.
use Rattle.tds_csv.proofs as csv_laws
use Rattle.tds_csv.specs as csv
use Rattle.tds_cells.specs as cells
use Rattle.tds_packet.proofs as packet_laws
use Rattle.tds_rows.specs as specs
pub use csv_laws.Words.{refl, ◌+◌, subst, take, ◌⊎◌, arith, length, Result, length-append, inr, Bool, ◌++◌, false, MatchResult, ap, ◌∙◌, Ok, ◌≡◌, append_assoc}
pub use csv_laws.Words.{drop, ℕ, ◌≤◌, [], sym, ◌∷◌, ◌%◌, ◌-◌, inl, Err, append-nil, ◌*◌, ◌^◌, List, ◌<◌, true, rules, length-drop, take-append_seam}
pub use csv_laws.Words.{drop-append_seam, common_steps, length-take-le, take_all, take-append-drop, append_cancel_left, if◌then◌else◌, Option, emit}
pub use csv_laws.Words.{overwritten, Space, Fault, Stop}
pub use csv_laws.LacksTail.{nears_done, LacksTail, nears_breaks, last_read, nears_after, nears_from, nears_inside, nears_put}
pub use csv_laws.Pieces.{breaks_somewhere, breaks_within}
pub use csv_laws.Sinks.{Puts-trans, WritesPrefix-after, WritesPrefix-longer, Puts-none}
pub use csv_laws.LentRooms.{spare_before, spare_written}
pub use csv_laws.Splits.{WritesPrefix_split, Puts_split}
pub use csv_laws.Streams.{stops_size, streaming_after}
pub use csv.Pushing.{WritesAdded, TakesUpTo, Completes, EndsBy, Pushes, is_stopped, LeavesPart, TakesPiece}
pub use csv.Sinks.{IsWriting, held, PutsPiece, WritesPrefix, IsOnSameSink, Puts, SinkView}
pub use csv.Streaming.{StopsStreaming, Streams, PutsText}
pub use csv.declared.joiners.JoinFault.{JoinFault}
pub use csv.declared.joiners.JoinFault.TheVariants.{Stopped, Odd}
pub use csv.declared.sink.Sink.{Sink}
pub use Rattle.tds_cells.proofs.Words.{suc, zero, add-zero, ◌≢◌, get_or, take_more, length-take, drop_more, drop-drop, drop_all, ◌==◌, ◌||◌, is_ok, nat_le}
pub use Rattle.tds_cells.proofs.Words.{None, slice_index, map, Some, Column, ValueFault, option_map_or, scalar_size, value_length, value_bytes, value_start}
pub use Rattle.tds_cells.proofs.Words.{is_length_allowed, fixed_length, is_scalar, little, read_of, Charset, Kind, Short, Chunked}
pub use cells.declared.whole.Left.TheVariants.{Refused}
pub use cells.CellTexts.{IsLeftFor, cell_so_far}
pub use cells.Cells.{ShortData, ScalarLength, WholeCell, cell, ChunkLength, ShortLength, cell_start, cell_add, Null, cell_size, unless, shape, ScalarBytes}
pub use cells.Cells.{Total, field, Shape, cell_end, field_so_far, ChunkData, CellPart, CountedShape, FixedShape, known_total, return_charset, LongShape}
pub use cells.Cells.{cell_fault, Cell, SpellsCell, long_start, DataCell, within_total}
pub use cells.MarkedRuns.{WritesColumn, WritesMarked, Covers, nulls_of}
pub use cells.MarkedRows.{WritesNbcRow, WritesNbcRows, WritesWholeRows}
pub use cells.Rows.{marked, WholeRow, bitmap_length, bit, RowToken, Bitmap, PlainRow, with_cell, RowPart, row, SpellsRow, NbcRow, row_so_far, InCell, row_add}
pub use cells.Rows.{token_byte, row_start, next_cell, BeginNoRow}
pub use cells.Runs.{rows_so_far, rows, lines, Writes, RowsPart, WritesRows, RunWritten, Ran}
pub use cells.RowFormats.{IsCursor, KnowsSome, Knows}
pub use cells.WholeCells.{WritesCell, WritesWhole}
pub use cells.declared.nulls.Nulls.{Nulls}
pub use cells.declared.nulls.Nulls.TheVariants.{Unmarked, Marked}
pub use cells.declared.row_format.Cursor.{Cursor}
pub use cells.declared.run.RowsSpan.{RowsSpan}
pub use cells.declared.row_format.RowFormat.{RowFormat}
pub use Rattle.tds_text.proofs.Words.{cases_lt}
pub use Rattle.tds_text.proofs.OpenTexts.{begun_front, open_closes, unfit_adds_none, open_grows}
pub use Rattle.tds_text.proofs.ConversionLaws.{no_data_is_fit, joins_by_name, begun_by_test, fit_by_test}
pub use Rattle.std.proofs.lemmas.List.{nil_from_length}
pub use Rattle.std.proofs.lemmas.Result.{MatchResult-weaker}
pub use Rattle.tds_text.specs.Conversion.{is_begun, IsFit, is_quoted, Conversion, BeginsData, Utf16Text, Suits, is_fit, long_field, unit, conversion_rest}
pub use Rattle.tds_text.specs.Conversion.{closing, HexDigits, Windows1252Text, open_field, Utf8Text, conversion_text}
pub use Rattle.tds_text.specs.Quoting.{null_field, joined, after_comma, quote, in_line, end_after}
pub use packet_laws.Words.{Consumes, ⊤}
pub use packet_laws.ElementLaws.{no_further, longest_at, Spelt-step, one_longest, Spelt-append, longest_cut, longest_refused, Spelt-none, Spelt-one}
pub use packet_laws.ElementLaws.{Inside-Spelt}
pub use packet_laws.Futures.{Ends-after, Takes-more, Takes-none, Takes-trans}
pub use packet_laws.InnerGrammars.{stops_inside, next_some}
pub use packet_laws.Passing.{passed_on, passed}
pub use packet_laws.PayloadLaws.{at_ok, at_err, between_of}
pub use packet_laws.Places.{stops_here}
pub use packet_laws.Steps.{takes_both, cut_at_once, reads_one, began_is_cut, stops_after, reads_both, refused_at_once}
pub use packet_laws.WireFaults.{ends_blame}
pub use Rattle.tds_packet.specs.Coming.{before}
pub use Rattle.tds_packet.specs.Elements.{IsRefused, Grammar, Spelt, IsNext, Longest}
pub use Rattle.tds_packet.specs.Payloads.{seen, buffered, further, IsOnSame, IsGoing}
pub use Rattle.tds_packet.specs.Reading.{StopsReading, CutsNext, RefusesNext}
pub use Rattle.tds_packet.specs.PayloadView.{Takes, began_at, IsBetween, Ends, PayloadView}
pub use Rattle.tds_packet.specs.declared.fault.Fault.TheVariants.{BadValue, ReadFailed, BadValueLength, MessageEnded, WriteFailed, BadText, OddText}
pub use Rattle.tds_packet.specs.declared.fault.Fault.TheVariants.{RefusedToken}
pub use Rattle.tds_columns.proofs.Words.{Payload}
pub use Rattle.tds_columns.specs.Elements.{TakesInto, EndsInto}
pub use Rattle.tds_columns.specs.ReturnedType.{return_column}
pub use Rattle.std.specs.Result.{IsErrAnd}
pub use Rattle.tds_meter.specs.Counts.{Rose, one_more}
pub use specs.Blames.{failures_of, Failures}
pub use specs.CellSteps.{LeavesSmall, StallsCell, refusal, FieldPut, PutsField, GathersCell}
pub use specs.LongReading.{LeavesValue}
pub use specs.LongCells.{RefusesNumber, EndsData, added_text, StopsFilling, chunk_length_fault, EndPut, RefusesData, StopsData, ReadsNumber, CutsBytes, ending}
pub use specs.LongCells.{WritesPrefixOfData, join_stop, opening, FillsData, TakesData}
pub use specs.PassedCells.{CellPassed, StepsOver, StopsPassing, CutsPassing, PassesData, PassesCell, AnyData}
pub use specs.RowRuns.{RunRead}
pub use specs.RowReading.{AwaitsRows, BitmapRead, CellRead, LeavesRows, MarkedBy, NextRead}
pub use specs.RowSteps.{ReadsRow, ReadsRows, RowsRead, RowsStop, SomeRead}
pub use specs.RunPuts.{PutsRun, WritesPrefixOfRun}
pub use specs.Successes.{SpellsRows, SucceedsOn, Brings}
pub use specs.declared.rows.Rows.{Rows}
pub use Rattle.tds_values.specs.declared.kind.Kind.TheVariants.{Narrow, Binary, Wide}
pub use Rattle.tds_values.specs.declared.kind.Reach.{Reach}
pub use Rattle.tds_values.specs.declared.scalar.ValueFault.TheVariants as value_faults

-- less than a block waits
abbrev pub HasRoom : SinkView → Type 0
HasRoom h = length h.waiting < 4096

-- the count of what was delivered fits
abbrev pub Counts : SinkView → Type 0
Counts h = h.delivered ≤ 2 ^ 64 - 1

-- what tells the bytes of a device, if they can be told
abbrev pub Tells : Type 0 → Type 0
Tells D = D → Option (List ℕ)

-- before the first element of a cell of a kind
abbrev pub start_of : Charset → Kind → CellPart
start_of charset kind = cell_start kind (shape charset kind)
