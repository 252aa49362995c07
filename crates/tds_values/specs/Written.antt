-- The text of a value in the front of a slice.
use Rattle.std.specs.Prelude.{◌≡◌, ℕ, ◌/◌, ◌%◌, ◌≤◌, ℤ, List, ◌++◌, codes, take, Result, Ok, Err}
use Rattle.tds_values.specs.declared.scalar.ScalarValue.{ScalarValue}
use Rattle.tds_values.specs.declared.scalar.ValueFault.{ValueFault}
use Rattle.tds_values.specs.ScalarText.{text_of, date_and_time, seconds_text, fraction_text, offset_text}

-- the first n bytes are the text of the value, at most 41
abbrev pub IsText : ScalarValue → ℕ → List ℕ → Type 0
IsText value n bytes = (take n bytes ≡ text_of value) × (n ≤ 41)

-- the first n bytes are the text of what was read
abbrev pub IsTextOf : Result ScalarValue ValueFault → ℕ → List ℕ → Type 0
IsTextOf read n bytes = (value : ScalarValue) × ((read ≡ Ok value) × IsText value n bytes)

-- what was read is written, or its fault is returned
abbrev pub IsWritten : Result ScalarValue ValueFault → Result ℕ ValueFault → List ℕ → Type 0
IsWritten (Ok value) (Ok n) bytes = IsText value n bytes
IsWritten (Err fault) (Err answer) bytes = answer ≡ fault
IsWritten (Ok value) (Err answer) bytes = ⊥
IsWritten (Err fault) (Ok n) bytes = ⊥

-- the first n bytes are a local time in whole seconds since day 0 with the fraction of its units, and its offset; at most 41
abbrev pub IsLocalText : ℕ → ℕ → ℕ → ℤ → ℕ → List ℕ → Type 0
IsLocalText local scale units offset n bytes =
    let time = seconds_text (local % 86400) ++ fraction_text scale units in
    (take n bytes ≡ date_and_time (local / 86400) time ++ codes " " ++ offset_text offset) × (n ≤ 41)
