-- The words that the proofs of this crate share.
pub use Rattle.hex.specs.Hex.{encode_lower, lower_digits}
pub use Rattle.jiff_core.proofs.CalendarLemmas.{day_count-lt_year, days_from_civil-day_count, days_of_months_table}
pub use Rattle.jiff_core.proofs.DateLemmas.{civil}
pub use Rattle.jiff_core.proofs.MarchLemmas.{days_of_years-march_days}
pub use Rattle.jiff_core.proofs.SignedLemmas.{signed_arith}
pub use Rattle.jiff_core.specs.Date.{epoch_day}
pub use Rattle.jiff_core.specs.declared.civil.date.Date.{Date}
pub use Rattle.std.proofs.Common.{Fits, replicate, take_all, ap₂, slice_index, w8, add-zero, zero-add, Bool, Err, List, None, Ok, Option, Result, Some, [], ap}
pub use Rattle.std.proofs.Common.{append_assoc, arith, codes, decimal, drop, false, get_or, inl, inr, length, length-append, map, min, nat_lt, negsuc, pos}
pub use Rattle.std.proofs.Common.{refl, rules, suc, sum, sym, take, true, unsigned_abs, zero, ℕ, ℤ, ⊎_elim, ◌%◌, ◌*◌, ◌++◌, ◌+ℤ◌, ◌+◌, ◌-◌, ◌/◌, ◌<ℤ◌, ◌<◌, ◌^◌}
pub use Rattle.std.proofs.Common.{◌∙◌, ◌∷◌, ◌≡◌, ◌≤◌, ◌⊎◌}
pub use Rattle.std.proofs.Math.Nat.{add-mul-div_left, add-suc, suc-add, div-add-mod, div-div-eq-div-mul, div-eq_of_lt, div-one, one-le-pow, pow-le-pow_right}
pub use Rattle.std.proofs.Math.Nat.{pow-succ'}
pub use Rattle.std.proofs.Math.Seq.{drop-append_seam, take-append-add}
pub use Rattle.std.proofs.lemmas.Bool.Decides.{nat_tests}
pub use Rattle.std.proofs.lemmas.Bool.{agree_below, agree_below_at, cases_lt, eqb-true}
pub use Rattle.std.proofs.lemmas.Fmt.{decimal_digit, decimal_step_wide, length-decimal-le, length-decimal-le_wide}
pub use Rattle.std.proofs.lemmas.Grind.{common_steps}
pub use Rattle.std.proofs.lemmas.Int.{to_z-of_z}
pub use Rattle.std.proofs.lemmas.List.Elements.{All-head, All-nil, All-push, All-tail}
pub use Rattle.std.proofs.lemmas.List.Sums.{sum_by_more_le}
pub use Rattle.std.proofs.lemmas.List.{append-nil, length-map, take-append-le, get_or-take, length-take, length-take-le, take-take, take_at}
pub use Rattle.std.proofs.lemmas.Nat.{div-mul-add, div_below, le-div, mod-mul-add, mod_below, mul-le, pow-add}
pub use Rattle.std.proofs.lemmas.Simd.{Each1-all, Each2-splat, SwzOk-from_below, length-put_chunk, pick_l_left, put_chunk_is, swz_l, zip2_splat}
pub use Rattle.std.specs.Fmt.{signed_decimal}
pub use Rattle.std.specs.Int.{bytes_low_first}
pub use Rattle.std.specs.Prelude.{All, IfOk, IsTrue, if◌then◌else◌, is_some, ◌==◌, ◌||◌}
pub use Rattle.tds_values.specs.Calendar.{CivilDate, IsCivilDate, IsDateOf, date_in_year, date_of, day_number, days_before_month, days_before_year}
pub use Rattle.tds_values.specs.Calendar.{is_leap_year, month_lengths}
pub use Rattle.tds_values.specs.Kind.{is_valid}
pub use Rattle.tds_values.specs.LocalTime.{is_local, local_seconds, local_units}
pub use Rattle.tds_values.specs.Scalar.{read_of}
pub use Rattle.tds_values.specs.ScalarRange.{is_in_range}
pub use Rattle.tds_values.specs.ScalarText.{FitsWidths, date_and_time, fraction_text, last_digits, local_text, offset_text, seconds_text, text_of}
pub use Rattle.tds_values.specs.TimeOfDay.{is_time}
pub use Rattle.tds_values.specs.TypeInfo.{IsTypeInfo, kind_of}
pub use Rattle.tds_values.specs.Written.{IsText, IsWritten}
pub use Rattle.tds_values.specs.declared.tables.TheConstants.{DAYS, FOUR_DIGITS, MINUTES, SMALL_NUMBERS}
pub use Rattle.tds_values.specs.declared.kind.Kind.{Kind}
pub use Rattle.tds_values.specs.declared.kind.Reach.TheVariants.{Chunked, Short}
pub use Rattle.tds_values.specs.declared.scalar.ScalarValue.{ScalarValue}
pub use Rattle.tds_values.specs.declared.scalar.ValueFault.{ValueFault}
pub use Rattle.uuid.proofs.TextLemmas.{by_index_length}
pub use Rattle.uuid.specs.Parts.{swap_fields}
pub use Rattle.uuid.specs.Text.{hex_digit, lower}
pub use lib.Count.{under}
pub use lib.Lanes.{Each1, put_chunk}
