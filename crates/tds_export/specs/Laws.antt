-- The laws of responses and of their faults.
use Rattle.std.specs.Prelude.{◌≡◌, ◌↔◌, ◌+◌, ℕ, true, List, ◌++◌, take, drop}
use Rattle.tds_packet.specs.declared.fault.Fault.{Fault}
use Rattle.tds_packet.specs.Elements.{AreBytes, Spelt, Longest, IsRefused}
use Rattle.tds_values.specs.declared.charset.Charset.{Charset}
use Rattle.tds_export.specs.Tokens.{Token, is_final}
use Rattle.tds_packet.specs.Packets.{Packet}
use Rattle.tds_export.specs.Response.{Response, Accepted}
use Rattle.tds_export.specs.TokenGrammar.{Between, Part, response, response_start}

-- No payload spells two lists of tokens.
abbrev pub OneResponse : Type 0
OneResponse = (charset : Charset) (room : ℕ) (a b : List Token) (payload : List ℕ) → Response charset room a payload → Response charset room b payload
    → a ≡ b

-- No bytes lead to two parts of a response.
abbrev pub OnePart : Type 0
OnePart = (charset : Charset) (room : ℕ) (bytes : List ℕ) (a b : Part) → Spelt (response charset room) response_start bytes a
    → Spelt (response charset room) response_start bytes b → a ≡ b

-- Each payload has a longest part.
abbrev pub SomeLongest : Type 0
SomeLongest = (charset : Charset) (room : ℕ) (payload : List ℕ) → (place : ℕ) × (part : Part)
    × Longest (response charset room) response_start payload place part

-- No payload has two longest parts.
abbrev pub OneLongest : Type 0
OneLongest = (charset : Charset) (room : ℕ) (payload : List ℕ) (m n : ℕ) (a b : Part) → Longest (response charset room) response_start payload m a
    → Longest (response charset room) response_start payload n b → (m ≡ n) × (a ≡ b)

-- No response begins with the bytes up to the end of an element that is refused.
abbrev pub RefusedForGood : Type 0
RefusedForGood = (charset : Charset) (room : ℕ) (payload more : List ℕ) (place : ℕ) (part : Part) (fault : Fault) (tokens : List Token) →
    Longest (response charset room) response_start payload place part → IsRefused (response charset room) part (drop place payload) fault →
    Response charset room tokens (take (place + (response charset room).size part) payload ++ more) → ⊥

-- A payload of bytes spells a response of these tokens exactly if all of it is read as these tokens, the last a final DONE.
abbrev pub ReadAsSpelt : Type 0
ReadAsSpelt = (charset : Charset) (room : ℕ) (tokens : List Token) (payload : List ℕ) → AreBytes payload →
    Response charset room tokens payload ↔ ((is_final tokens ≡ true)
    × Spelt (response charset room) response_start payload (record { tokens = tokens; at = Between }))

-- No input begins with two accepted responses.
abbrev pub OneAccepted : Type 0
OneAccepted = (charset : Charset) (size room limit : ℕ) (a b : List Token) (p q : List Packet) (input : List ℕ)
    → Accepted charset size room limit a p input → Accepted charset size room limit b q input → (a ≡ b) × (p ≡ q)
