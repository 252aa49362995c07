-- The words that the proofs of this crate share.
use Rattle.tds_cells.specs as cells
use Rattle.tds_values.specs as values
use Rattle.std.proofs as base_laws
use Rattle.std.specs as base
use Rattle.tds_text as text
use Rattle.tds_packet as packet
use Rattle.tds_columns as columns
pub use base_laws.Common.{refl, ◌+◌, take, ◌⊎◌, replicate, arith, suc, zero, length, Result, length-append, inr, Bool, ◌++◌, false, ap, add-zero, ◌∙◌}
pub use base_laws.Common.{Ok, ◌≡◌, append_assoc, drop, ℕ, ◌≤◌, [], sym, ◌∷◌, ◌%◌, ◌/◌, ◌-◌, inl, append-nil, ◌*◌, ◌≢◌, get_or, ◌^◌, List, ◌<◌, true, rules}
pub use base_laws.Common.{add-suc, w8, w32}
pub use base_laws.Math.ListN.{length-set}
pub use base_laws.Math.Seq.{take-append-add, take-add, take-append_seam, drop-nil}
pub use base_laws.lemmas.Bool.{ne_eqb, eq-eqb, and_from, or_left, or_right, true≢false}
pub use base_laws.lemmas.Bool.Decides.{nat_tests}
pub use base_laws.lemmas.Grind.{common_steps}
pub use base_laws.lemmas.List.{take_more, get_or-map, length-drop, take-map, length-take, take_more_set, drop_more, drop-map, drop-take, get_or-take}
pub use base_laws.lemmas.List.{length-map, length-take-le, get_or_default, map-append, drop-drop, take_all, take-take, take-append-le, drop_all, get_or-drop}
pub use base_laws.lemmas.List.{drop-append-le, take-set-le}
pub use base_laws.lemmas.List.Folds.{concat-append, list_all_more}
pub use base.List.{concat, list_all}
pub use base.Option.{option_map_or}
pub use base.Prelude.{◌==◌, slice_set, ◌||◌, is_ok, ◌&&◌, None, slice_index, Option, nat_le, map, codes, Some, nat_lt, IsTrue, ◌↔◌}
pub use Rattle.byteorder.specs.Endian.{little_number}
pub use cells.CellTexts.{IsScalarLeft, cell_so_far, opened, IsLeft, WritesKind, is_counted, is_last_column, is_int4, WritesField, whole_size}
pub use cells.Cells.{cell_fault, ShortData, within_total, ScalarLength, ScalarCell, WholeCell, CountedShape, cell, ChunkLength, value_part}
pub use cells.Cells.{ShortLength, cell_start, cell_add, Null, SpellsChunked, cell_size, unless, shape, ScalarBytes, Total, field, Shape, known_total}
pub use cells.Cells.{FixedShape, field_so_far, ChunkData, CellPart, SpellsChunk, SpellsChunks, LongShape, Cell, is_total, SpellsCell, DataCell}
pub use cells.FormatRuns.{run_since, FirstLeft, WritesFormats, RunsFormats, WritesFields}
pub use cells.Formats.{Each}
pub use cells.Layouts.{IsLaidOut}
pub use cells.LongFields.{HasOneChunk, IsLongLeft, LongWritten, chunk_end, chunks_size, long_size}
pub use cells.MarkedRows.{EndsNbcRows, WritesNbcRows, WritesWholeRows, WritesNbcRow}
pub use cells.MarkedRuns.{WritesColumn, EndsFar, EndsLeft, CellsWritten, BitsAre, WritesMarked, RunsMarked}
pub use cells.RowFormats.{BeginsRow, IsCursor, AreAtCursor, Knows, NextColumn, place}
pub use cells.Rows.{marked, WholeRow, bitmap_length, row_add, SpellsMarked, bit, RowToken, Bitmap, PlainRow, with_cell, RowPart, SpellsRow, row, NbcRow}
pub use cells.Rows.{row_so_far, row_size, InCell, token_byte, row_start, next_cell}
pub use cells.Runs.{KnownRan, rows_so_far, lines, rows, Writes, after_cells, RowsPart, WritesRows, Ran, rows_add, LeavesNext}
pub use cells.WholeCells.{WritesCell, WritesWhole}
pub use cells.declared.layout.CellFormat.{CellFormat}
pub use cells.declared.layout.Layout.{Layout}
pub use cells.declared.nulls.Nulls.TheVariants.{Unmarked}
pub use cells.declared.row_format.Cursor.{Cursor}
pub use cells.declared.row_format.RowFormat.{RowFormat}
pub use cells.declared.run.KnownRun.{KnownRun}
pub use cells.declared.run.RowsSpan.{RowsSpan}
pub use cells.declared.run.formats.FormatsRun.{FormatsRun}
pub use columns.proofs.ByteLemmas.{one_byte, two_bytes}
pub use columns.proofs.ViewLaws.{all_after}
pub use columns.specs.Description.{Column}
pub use columns.specs.View.{columns_of}
pub use columns.specs.Walking.{columns_left}
pub use columns.specs.declared.walk.Walk.{Walk}
pub use packet.proofs.Choices.{test_lt, choose_true, eq_false, eq_true, choose}
pub use packet.proofs.ElementLaws.{Spelt-induct, AreBytes-back, one_state, Spelt-step, Inside, refused_for_good, AreBytes-front, Spelt-append, Spelt-one}
pub use packet.proofs.ElementLaws.{Inside-Spelt}
pub use packet.proofs.InnerGrammars.{next_some}
pub use packet.specs.Elements.{IsRefused, AreBytes, Grammar, Spelt, IsNext, Leads}
pub use packet.specs.declared.fault.Fault.{Fault}
pub use text.proofs.ConversionLaws.{no_data_is_fit, fit_begins, fit_units, begun_by_test, joins_by_name, fit_by_test}
pub use text.proofs.OpenTexts.{open_closes, open_grows}
pub use text.proofs.SingleLaws.{hex-nil}
pub use text.proofs.Utf16Steps.{text_nil}
pub use text.specs.Conversion.{is_begun, Conversion, is_fit, long_field, unit, closing, open_field, conversion_text, BeginsData, HexDigits, Utf16Text, Utf8Text}
pub use text.specs.Conversion.{Windows1252Text, conversion_rest, is_quoted}
pub use text.specs.Fields.{conversion_of}
pub use text.specs.Joining.{emit}
pub use text.specs.Quoting.{null_field, joined, after_comma, in_line, line, end_after, binary_mark, quote}
pub use text.specs.declared.fields.Content.{Content}
pub use Rattle.tds_values.proofs.WrittenLemmas.{answered}
pub use values.Front.{scalar_size, start_after, length_after, value_length, value_bytes, value_start}
pub use values.Kind.{is_length_allowed, fixed_length, is_scalar, is_valid}
pub use values.Numbers.{little}
pub use values.Scalar.{read_of}
pub use values.ScalarText.{text_of}
pub use values.declared.charset.Charset.{Charset}
pub use values.declared.charset.Charset.TheVariants.{Windows1252}
pub use values.declared.kind.Kind.{Kind}
pub use values.declared.kind.Kind.TheVariants.{Wide}
pub use values.declared.kind.Reach.TheVariants.{Short, Chunked}
pub use values.declared.scalar.ScalarValue.{ScalarValue}
pub use values.declared.scalar.ValueFault.{ValueFault}
pub use borrow.Rule.Slice.PartMut.{put_mid, same_len_mid}
