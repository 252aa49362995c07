-- The value of a scalar kind at the front of bytes, which may go on after it.
use Rattle.std.specs.Prelude.{◌≡◌, ℕ, ◌+◌, false, List, take, drop, slice_index, is_ok, Option, Some, None, MatchOption}
use Rattle.tds_values.specs.declared.span.Span.{Span}
use Rattle.tds_values.specs.declared.kind.Kind.{Kind}
use Rattle.tds_values.specs.Kind.{fixed_length}
use Rattle.tds_values.specs.Scalar.{read_of}
use Rattle.tds_values.specs.Written.{IsTextOf}

-- where the value is: after a length, unless each value has as many bytes
abbrev pub start_after : Option ℕ → ℕ
start_after (Some n) = 0
start_after None = 1

-- how many bytes it has: always as many, or what the length says
abbrev pub length_after : Option ℕ → List ℕ → ℕ
length_after (Some n) bytes = n
length_after None bytes = slice_index bytes 0

-- where the value of a kind is
abbrev pub value_start : Kind → ℕ
value_start kind = start_after (fixed_length kind)

-- how many bytes it has; 0 if it is NULL
abbrev pub value_length : Kind → List ℕ → ℕ
value_length kind bytes = length_after (fixed_length kind) bytes

-- how many it has with its length
abbrev pub scalar_size : Kind → List ℕ → ℕ
scalar_size kind bytes = value_start kind + value_length kind bytes

-- the bytes of the value
abbrev pub value_bytes : Kind → List ℕ → List ℕ
value_bytes kind bytes = take (value_length kind bytes) (drop (value_start kind) bytes)

-- The text of the value was written to the front of a slice, and all its bytes were used; or it is refused.
abbrev pub FrontWritten : Kind → List ℕ → List ℕ → Option Span → Type 0
FrontWritten kind bytes text result = MatchOption result (is_ok (read_of kind (value_bytes kind bytes)) ≡ false)
    (λ front. (front.used ≡ scalar_size kind bytes) × IsTextOf (read_of kind (value_bytes kind bytes)) front.made text)
