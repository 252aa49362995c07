-- The tests of the conversions tell their facts.
use Rattle.tds_text.proofs as N
use N.{◌≡◌, ℕ, ◌%◌, true, List, [], ◌++◌, arith, ◌↔◌, Conversion, is_fit}

pub ruleset utf8_tests = (N.IsUtf8-from_is_utf8, N.is_utf8-from_IsUtf8)

pub fit_by_test : (c : Conversion) (bytes : List ℕ) → (is_fit c bytes ≡ true) ↔ N.IsFit c bytes
fit_by_test = grind (arith, N.IsUtf8-from_is_utf8, N.is_utf8-from_IsUtf8)

pub begun_by_test : (c : Conversion) (bytes : List ℕ) → (N.is_begun c bytes ≡ true) ↔ N.BeginsData c bytes
begun_by_test = grind (arith, N.Utf8Laws.none_begins, N.Utf8Laws.begins_none)

pub joins_by_name : (c : Conversion) → N.JoinsPieces (N.IsFit c) (N.BeginsData c) (N.conversion_rest c) (N.conversion_text c)
joins_by_name N.HexDigits = N.SingleLaws.joins_binary
joins_by_name N.Utf16Text = N.Utf16Laws.joins_utf16
joins_by_name N.Windows1252Text = N.SingleLaws.joins_windows_1252
joins_by_name N.Utf8Text = N.Utf8Laws.joins_utf8

-- no data is whole
pub no_data_is_fit : (c : Conversion) → is_fit c [] ≡ true
no_data_is_fit = grind (arith, N.is_utf8-from_IsUtf8)

-- whole data has whole units
pub fit_units : (c : Conversion) (bytes : List ℕ) → is_fit c bytes ≡ true → N.length bytes % N.unit c ≡ 0
fit_units = grind arith

-- what begins whole data begins
pub fit_begins : (c : Conversion) (a b : List ℕ) → is_fit c (a ++ b) ≡ true → N.is_begun c a ≡ true
fit_begins = grind (arith, begun_by_test, N.IsUtf8-from_is_utf8)
