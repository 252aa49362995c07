-- What reading the body of an ERROR or INFO does.
use Rattle.std.specs.Prelude.{◌≡◌, ◌⊎◌, ◌+◌, ◌≤◌, ℕ, true, List, length, take, drop, Option, Result, MatchResult}
use Rattle.byteorder.specs.Endian.{little_number}
use Rattle.tds_packet.specs.declared.fault.Stop.{Stop}
use Rattle.tds_packet.specs.declared.payload.Payload.{Payload}
use Rattle.tds_packet.specs.Payloads.{seen}
use Rattle.tds_packet.specs.Reading.{Reads, StopsReading}
use Rattle.tds_packet.specs.PayloadView.{PayloadView}
use Rattle.tds_values.specs.declared.charset.Charset.{Charset}
use Rattle.tds_export.specs.Steps.{in_length}
use Rattle.tds_export.specs.TokenBytes.{Bodied}
use Rattle.tds_export.specs.TokenGrammar.{Part, TokenBody, bodied, holds_notice, is_notice, response, with_token}
use Rattle.tds_export.specs.Tokens.{Token}

-- The bytes begin with a Length of this number, and with a body of so many bytes whose inner lengths stay within it.
pub record BeginsNotice (bytes : List ℕ) (n : ℕ) : Type 0 where
  pub is : n ≡ little_number 2 bytes
  pub least : 14 ≤ n
  pub whole : 2 + n ≤ length bytes
  pub holds : holds_notice (take n (drop 2 bytes)) ≡ true

-- Before the body of a token, or before its Length.
abbrev pub IsInBody : List Token → Bodied → Part → Type 0
IsInBody tokens which at = (at ≡ in_length which tokens) ⊎ ((n : ℕ) × (at ≡ record { tokens = tokens; at = TokenBody which n }))

-- The Length and the body were read, and this is the body.
pub record ReadsNotice (charset : Charset) (room : ℕ) (tokens : List Token) (which : Bodied) (old new : PayloadView) (place place' : ℕ)
    (body : List ℕ) : Type 0 where
  pub reads : Reads (response charset room) (in_length which tokens) old new (with_token tokens (bodied which body))
  pub place_is : place' ≡ place + length reads.bytes

-- That stopped before the Length or before the body.
pub record StopsInNotice (charset : Charset) (room : ℕ) (tokens : List Token) (which : Bodied) (old new : PayloadView) (place : ℕ) (stop : Stop) : Type 0
  where
    pub at : Part
    pub stops : StopsReading (response charset room) (in_length which tokens) old new place at stop
    pub in_body : IsInBody tokens which at

-- The Length and the body of an ERROR or INFO were read, or that stopped: whatever the tokens before it are.
abbrev pub NoticeRead : {R U : Type 0} → (R → Option (List ℕ)) → (old new : Payload R) → List ℕ → Result U Stop → Type 0
NoticeRead remaining old new body result = (charset : Charset) (room : ℕ) (tokens : List Token) (which : Bodied) → is_notice which ≡ true →
    MatchResult result
    (λ _. ReadsNotice charset room tokens which (seen remaining old) (seen remaining new) old.place new.place body)
    (λ stop. StopsInNotice charset room tokens which (seen remaining old) (seen remaining new) old.place stop)
