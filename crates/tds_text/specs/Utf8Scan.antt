-- Where bytes stop being the beginning of a text in UTF-8.
use Rattle.std.specs.Prelude.{◌≡◌, ℕ, ◌+◌, ◌-◌, ◌*◌, ◌<◌, ◌≤◌, List, length, take, drop, IsUtf8, Option, MatchOption}
use Rattle.tds_values.specs.declared.span.Span.{Span}
use Rattle.tds_text.specs.Joining.{emit}
use Rattle.tds_text.specs.Quoting.{doubled}
use Rattle.tds_text.specs.Utf8.{Begins, rest, text}

-- the first bytes, this number of them, begin a text, and the next one is bad; a number of the first ones are whole characters
pub record StopsAt (bytes : List ℕ) (whole good : ℕ) : Type 0 where
  pub within : good < length bytes
  pub begun : Begins (take good bytes)
  pub bad : ¬ (Begins (take (good + 1) bytes))
  pub same : emit rest text (take good bytes) ≡ emit rest text bytes
  pub keeps : rest (take good bytes) ≡ take (good - whole) (drop whole bytes)

-- A number of the first bytes are whole characters, and a number of them begin a text.
pub record IsScan (bytes : List ℕ) (whole good : ℕ) : Type 0 where
  pub order : whole ≤ good
  pub most : good ≤ length bytes
  pub short : good ≤ whole + 3
  pub rest : drop whole bytes ≡ rest bytes
  pub begins : good ≡ length bytes → Begins bytes
  pub stops : good < length bytes → StopsAt bytes whole good

-- So many bytes from a place on are there, and are whole characters without a quote.
pub record AreUnquoted (bytes : List ℕ) (at n : ℕ) : Type 0 where
  pub within : at + n ≤ length bytes
  pub whole : IsUtf8 (take n (drop at bytes))
  pub unquoted : doubled (take n (drop at bytes)) ≡ take n (drop at bytes)

-- A number of the first bytes are whole characters, and their text, of this length, is at the front of a room.
pub record Converts (bytes to : List ℕ) (used made : ℕ) : Type 0 where
  pub within : used ≤ length bytes
  pub room : made ≤ 2 * used
  pub whole : IsUtf8 (take used bytes)
  pub text : take made to ≡ text (take used bytes)

-- The bytes begin a text; so many are whole characters, whose text, of this length, is at the front of a room.
pub record ConvertsBegun (bytes to : List ℕ) (used made : ℕ) : Type 0 where
  pub begun : Begins bytes
  pub within : used ≤ length bytes
  pub left : length bytes ≤ used + 3
  pub short : made ≤ 2 * length bytes
  pub text : take made to ≡ emit rest text bytes
  pub keeps : drop used bytes ≡ rest bytes

-- So it is, or they begin none.
abbrev pub BegunConverted : List ℕ → List ℕ → Option Span → Type 0
BegunConverted bytes to result = MatchOption result (¬ (Begins bytes)) (λ done. ConvertsBegun bytes to done.used done.made)
