-- A conversion of bytes that come in pieces. Each conversion has four words on the whole of the bytes so far:
--     fit bytes      the bytes are whole, so they have a text
--     begins bytes   bytes that are fit may begin so
--     rest bytes     those at the end whose text depends on what follows
--     text bytes     the text of fit bytes
use Rattle.std.specs.Prelude.{◌≡◌, ℕ, ◌-◌, ◌*◌, ◌<◌, ◌≤◌, List, [], ◌++◌, length, take}

-- the bytes without their rest
abbrev pub settled : (List ℕ → List ℕ) → List ℕ → List ℕ
settled rest bytes = take (length bytes - length (rest bytes)) bytes

-- the text that is fixed whatever follows
abbrev pub emit : (List ℕ → List ℕ) → (List ℕ → List ℕ) → List ℕ → List ℕ
emit rest text bytes = text (settled rest bytes)

-- what lets a joiner keep only the rest and forget all else
pub record JoinsPieces (fit begins : List ℕ → Type 0) (rest text : List ℕ → List ℕ) : Type 0 where
  -- a piece adds the text of the rest followed by the piece
  pub emits : (a b : List ℕ) → begins (a ++ b) → emit rest text (a ++ b) ≡ emit rest text a ++ emit rest text (rest a ++ b)
  -- what is withheld then is the rest of the rest followed by the piece
  pub keeps : (a b : List ℕ) → begins (a ++ b) → rest (a ++ b) ≡ rest (rest a ++ b)
  -- three bytes hold what is withheld
  pub short : (bytes : List ℕ) → begins bytes → length (rest bytes) ≤ 3
  -- at the end the text of the rest completes the text
  pub ends : (bytes : List ℕ) → fit bytes → text bytes ≡ emit rest text bytes ++ text (rest bytes)
  -- the rest of fit bytes is fit
  pub fit_rest : (bytes : List ℕ) → fit bytes → fit (rest bytes)
  -- bytes that begin some fit ones, and whose rest is fit, are fit
  pub fit_whole : (bytes : List ℕ) → begins bytes → fit (rest bytes) → fit bytes
  -- what begins, began at each moment before
  pub front : (a b : List ℕ) → begins (a ++ b) → begins a
  -- what may follow the whole may follow the rest
  pub inward : (a b : List ℕ) → begins (a ++ b) → begins (rest a ++ b)
  -- what may follow the rest may follow the whole
  pub outward : (a b : List ℕ) → begins (rest a ++ b) → begins (a ++ b)

-- the fixed text of some bytes is `out` and then that of others, after which as much is withheld
pub record Leads (rest text : List ℕ → List ℕ) (bytes others out : List ℕ) : Type 0 where
  pub emits : emit rest text bytes ≡ out ++ emit rest text others
  pub keeps : rest bytes ≡ rest others

-- each byte has a text of its own, so texts are joined as the bytes are
pub record IsBytewise (text : List ℕ → List ℕ) : Type 0 where
  pub appends : (a b : List ℕ) → text (a ++ b) ≡ text a ++ text b
  pub empty : text [] ≡ []

-- the text of the bytes is at the front of a room, in at most three bytes for each
pub record HasText (text : List ℕ → List ℕ) (bytes to : List ℕ) (made : ℕ) : Type 0 where
  pub short : made ≤ 3 * length bytes
  pub written : take made to ≡ text bytes

-- the text of one or more of the first bytes is at the front of a room
pub record HasPart (text : List ℕ → List ℕ) (bytes to : List ℕ) (used made : ℕ) : Type 0 where
  pub some : 0 < used
  pub within : used ≤ length bytes
  pub fits : made ≤ length to
  pub written : take made to ≡ text (take used bytes)
