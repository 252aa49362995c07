-- Bytes as hexadecimal text, for worked rows.
use Rattle.tds_values.proofs.Words.{ℕ, ◌+◌, ◌*◌, ◌==◌, List, [], ◌∷◌, codes, if◌then◌else◌}
use Rattle.std.specs.Char.{digit_value}
use Prim.Native.String.{String}

-- the bytes that hexadecimal digits write; spaces between them say nothing
abbrev bytes_of : List ℕ → List ℕ
bytes_of (high ∷ low ∷ more) = if high == 32 then bytes_of (low ∷ more) else (16 * digit_value high + digit_value low) ∷ bytes_of more
bytes_of more = []

-- the bytes that a text writes
abbrev pub hex : String → List ℕ
hex text = bytes_of (codes text)
