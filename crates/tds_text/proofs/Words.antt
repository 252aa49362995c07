-- The words that the proofs of this crate share.
pub use Rattle.hex.specs.Hex.{lower_digits, encode_lower}
pub use Rattle.std.proofs.Common.{◌||◌, ◌≡◌, ◌∙◌, inl, inr, ℕ, ◌+◌, ◌-◌, ◌<◌, ◌≤◌, ◌%◌, true, false, List, [], ◌∷◌, ◌++◌, length, take, Some, None, refl, sym}
pub use Rattle.std.proofs.Common.{ap, subst, arith, append_assoc, append-nil, length-append, IsUtf8, take_all, ◌≢◌, ◌/◌, drop, length-drop, length-take-le}
pub use Rattle.std.proofs.Common.{encode_utf8_all, suc, map, get_or, w8, w16, Fits, Bool, ◌^◌, not, cond, replicate, ap₂, codes, nat_le, slice_index_or, zero}
pub use Rattle.std.proofs.Common.{◌⊎◌, ◌*◌, length-take, ◌&&◌, eqb, leb, bit_or, unwrap_or, ⊎_elim, nat_lt, nat_eq, rules, bit_and}
pub use Rattle.std.proofs.Math.ListN.{drop_of_length-le}
pub use Rattle.std.proofs.Math.Seq.{take-append-add, drop-append-add, take-append_seam}
pub use Rattle.std.proofs.lemmas.Bool.{cond_both, or_parts, cases_lt, agree_below, agree_below_at, and_right, and_parts, cases_Bool}
pub use Rattle.std.proofs.lemmas.Bool.Decides.{nat_tests}
pub use Rattle.std.proofs.lemmas.Grind.{flat_map-append, common_steps}
pub use Rattle.std.proofs.lemmas.List.{take-append-le, nil_from_length, map-id, take-append-drop, take-take, take_at, drop-append-le, drop-take, length-map}
pub use Rattle.std.proofs.lemmas.List.{map-append, take_rest, take_more, drop_more, drop_at, get_or-drop, take-map, drop-map, get_or-append-add}
pub use Rattle.std.proofs.lemmas.List.{get_or_append_left}
pub use Rattle.std.proofs.lemmas.List.Sums.{prefix_len-le-length, count_by-le-length}
pub use Rattle.std.proofs.lemmas.Simd.{swz_l, map-map, mask_l-mod, length-chunk, chunk-fits, first_set_mask_l, splat_is_map, zip2_splat, zip2_splat_left}
pub use Rattle.std.proofs.lemmas.Simd.{SwzOk-from_below, length-put_chunk, take_more_put_chunk, Each2-splat, Each1-all, Each1-weaker, below_from_Fits}
pub use Rattle.std.proofs.lemmas.Simd.{ones-mask_l, zip2-map, length-zip2, Each1-zip2, Each2-of, Each1-chunk, Each1-replicate, bitmask_splat}
pub use Rattle.std.proofs.lemmas.Str.{is_utf8-from_IsUtf8, utf8_valid_len_le, IsUtf8-from_is_utf8, IsUtf8-nil, utf8_valid_len-IsUtf8, encodes-append}
pub use Rattle.std.proofs.lemmas.Str.{IsUtf8-append, IsUtf8-drop, IsUtf8-encode, IsCharBoundary-from_take, length-encode, len_utf8_bounds}
pub use Rattle.std.proofs.str.Laws.{Scalar, Follows, Shape, shape}
pub use Rattle.std.proofs.str.Valid.{of_two, of_three, of_four}
pub use Rattle.std.proofs.lemmas.Slice.Eq.{bytes_eq-Decides}
pub use Rattle.std.specs.Char.{encode_utf8, len_utf8}
pub use Rattle.std.specs.Char.Utf16.{utf16_lossy_chars, is_high_surrogate, is_low_surrogate, surrogate_pair_char, lone_unit_char}
pub use Rattle.std.specs.Int.{is_in_range, to_le_bytes, w32}
pub use Rattle.std.specs.List.{prefix_len, count_by}
pub use Rattle.std.specs.Str.{is_utf8, all_scalars, bytes_eq}
pub use Rattle.std.specs.Str.Lossy.{utf8_error_len, utf8_valid_len, valid_len_up_to, second_byte_min, second_byte_max}
pub use Rattle.std.specs.Prelude.{◌↔◌, slice_set, ⊤, count_ones, flat_map, Option}
pub use Rattle.tds_text.specs.Joining.{IsBytewise, emit, JoinsPieces, settled, Leads}
pub use Rattle.tds_text.specs.Utf8Scan.{StopsAt}
pub use Rattle.tds_text.specs.Conversion.{Conversion, HexDigits, Utf16Text, Windows1252Text, Utf8Text, BeginsData, conversion_rest, conversion_text, is_fit}
pub use Rattle.tds_text.specs.Conversion.{IsFit, unit, is_begun, is_quoted, long_field, open_field, closing}
pub use Rattle.tds_text.specs.Plain.{ArePlain, LiesIn, first_set, is_plain, evens, is_unquoted}
pub use Rattle.tds_text.specs.Quoting.{quote, doubled, doubled_byte, quoted_field, binary_field, line, after_comma}
pub use Rattle.tds_text.specs.declared.windows_1252.TheConstants.{UPPER}
pub use Rattle.tds_text.specs.Utf16Next.{Converts, LeavesRest, MayConvertSingles, seam, IsNext}
pub use Rattle.tds_text.specs.Wide.{AddsQuads, AddsUnits, high_quad, is_half, is_long, is_other, is_wide, low_and_high, low_quad, pair, pair_bytes}
pub use Rattle.tds_text.specs.Wide.{quad_bytes, triples, unit_text, units_text}
pub use Rattle.tds_text.specs.declared.places.TheConstants.{FIRST, PAIRS, QUADS}
pub use borrow.Rule.Slice.PartMut.{put_mid, post_of}
pub use lib.Lanes.{sel_l, Each1, chunk, fold_l, mask_l, top, zip2, Each2, digits_l}
pub use lib.Seq.{drop-drop, take-add}
pub use lib.Utf8.{scalar, scalar_cases}
pub use Rattle.tds_text.specs.Joined.{is_joined, is_lead, is_trail, pairs_at}
pub use Rattle.std.proofs.Math.Nat.{add-mul-mod_self_left, mod-eq_of_lt, mul_assoc, pow-succ'}
pub use Rattle.std.proofs.lemmas.Nat.{pow_pos, and_mask, le_or_l, le_or_r, or_lt, ones-le, ones_cat}
pub use Rattle.std.specs.Int.Bits.{and_zero_r}
pub use Rattle.std.proofs.lemmas.Nat.Bits.{and_high_mask}
pub use lib.Bits.{bit_xor}
pub use lib.Dec.{ltb}
pub use Rattle.std.specs.Simd.Lanes.{number_l}
