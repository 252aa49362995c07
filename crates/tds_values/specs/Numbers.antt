-- The numbers that bytes spell (MS-TDS, Data Type Dependent Data Streams).
use Rattle.std.specs.Prelude.{ℕ, ◌+◌, ◌*◌, ◌/◌, ◌%◌, ◌^◌, ◌==◌, ℤ, pos, List, [], ◌∷◌, length, drop, if◌then◌else◌}
use Rattle.std.specs.Int.{cast_signed, w16, w32, w64}
use Rattle.byteorder.specs.Endian.{little_number}

-- the whole number in n bytes, the low byte first: one byte is unsigned, and 2, 4 and 8 are signed
abbrev pub integer_of : ℕ → List ℕ → ℤ
integer_of n bytes =
    if n == 1 then pos (little_number 1 bytes)
    else if n == 2 then cast_signed w16 (little_number 2 bytes)
    else if n == 4 then cast_signed w32 (little_number 4 bytes)
    else cast_signed w64 (little_number 8 bytes)

-- the amount of money in n bytes: of 8 the high half comes first, each half with its low byte first
abbrev pub money_of : ℕ → List ℕ → ℤ
money_of n bytes =
    if n == 4 then cast_signed w32 (little_number 4 bytes)
    else cast_signed w64 (little_number 4 bytes * 2 ^ 32 + little_number 4 (drop 4 bytes))

-- the number that all the bytes spell, the low byte first
abbrev pub little : List ℕ → ℕ
little bytes = little_number (length bytes) bytes

-- a number in five groups of eight digits, the highest first
abbrev pub groups_of : ℕ → List ℕ
groups_of n = n / 10 ^ 32 ∷ n / 10 ^ 24 % 10 ^ 8 ∷ n / 10 ^ 16 % 10 ^ 8 ∷ n / 10 ^ 8 % 10 ^ 8 ∷ n % 10 ^ 8 ∷ []
