-- What contracts see of an area of bytes.
use Rattle.std.specs.Prelude.{◌≡◌, ℕ, max, List, [], ◌++◌, length}

-- the bytes that are there, the most that may be, and the most that were there since it was made or last emptied for a new run
pub record Space : Type 0 where
  pub bytes : List ℕ
  pub room : ℕ
  pub peak : ℕ

-- nothing, in this room
abbrev pub empty : ℕ → Space
empty room = record { bytes = []; room = room; peak = 0 }

-- other bytes, and the peak as it was
abbrev pub holding : Space → List ℕ → Space
holding s bytes = record { bytes = bytes; room = s.room; peak = s.peak }

-- a piece after its bytes, and the peak raised to their length
abbrev pub appended : Space → List ℕ → Space
appended s piece = record { bytes = s.bytes ++ piece; room = s.room; peak = max s.peak (length (s.bytes ++ piece)) }

-- This number of bytes was added, whatever they are.
abbrev pub Grows : Space → Space → ℕ → Type 0
Grows old new n = (more : List ℕ) × (length more ≡ n) × (new ≡ appended old more)
