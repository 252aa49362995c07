-- The grammar of a response, over whole tokens (MS-TDS, Packet Data Token Stream Definition).
use Rattle.std.specs.Prelude.{◌≡◌, ◌*◌, ◌%◌, ◌/◌, ◌<◌, ◌⊎◌, ℕ, Bool, true, false, List, [], ◌∷◌, ◌++◌, length, Option, Some, None, slice_index}
use Rattle.tds_values.specs.Numbers.{little}
use Rattle.tds_columns.specs.Description.{Column, SpellsDescription}
use Rattle.tds_values.specs.declared.charset.Charset.{Charset}
use Rattle.tds_cells.specs.Cells.{Cell}
use Rattle.tds_cells.specs.Rows.{NbcRow, PlainRow, SpellsRow}
use Rattle.tds_packet.specs.Packets.{Packet, Message, payload_of}
use Rattle.tds_export.specs.TokenBytes.{APassed, AnOrder, AnEnvChange, AnError, AnInfo, AStatus, ADone, ADoneInProc, Lead, AMetadata, ARow, AnNbcRow}
use Rattle.tds_export.specs.TokenBytes.{AReturn, WithBody, WithFields}
use Rattle.tds_export.specs.ReturnValue.{SpellsReturnValue}
use Rattle.tds_export.specs.Tokens.{Notice, Token, Metadata, NoMetadata, Row, PassedOver, Error, Info, ReturnStatus, Returned, Done, DoneInProc}
use Rattle.tds_export.specs.Tokens.{described_after, is_final}

-- The bytes are a body with its length before it.
abbrev pub SpellsBody : List ℕ → List ℕ → Type 0
SpellsBody body bytes = (bytes ≡ (length body % 256 ∷ length body / 256 ∷ []) ++ body) × (length body < 65536)

-- The body spells the notice (MS-TDS, ERROR and INFO).
pub record SpellsNotice (n : Notice) (body : List ℕ) : Type 0 where
  pub head : List ℕ
  pub units : List ℕ
  pub server : List ℕ
  pub procedure : List ℕ
  pub last : List ℕ
  pub ignored : List ℕ
  pub spelt : body ≡ ((((((head ++ n.state ∷ n.class ∷ []) ++ units) ++ n.message) ++ (length server / 2 ∷ server))
      ++ (length procedure / 2 ∷ procedure)) ++ last) ++ ignored
  pub number : (length head ≡ 4) × (little head ≡ n.number)
  pub message : (length units ≡ 2) × (length n.message ≡ 2 * little units)
  pub servers : length server % 2 ≡ 0
  pub procedures : length procedure % 2 ≡ 0
  pub line : (length last ≡ 4) × (little last ≡ n.line_number)

-- The byte is the first of such a token.
abbrev pub IsFirst : Lead → ℕ → Type 0
IsFirst AMetadata byte = byte ≡ 0x81
IsFirst ARow byte = byte ≡ 0xD1
IsFirst AnNbcRow byte = byte ≡ 0xD2
IsFirst (WithBody (APassed AnOrder)) byte = byte ≡ 0xA9
IsFirst (WithBody (APassed AnEnvChange)) byte = byte ≡ 0xE3
IsFirst (WithBody AnError) byte = byte ≡ 0xAA
IsFirst (WithBody AnInfo) byte = byte ≡ 0xAB
IsFirst (WithFields AStatus) byte = byte ≡ 0x79
IsFirst (WithFields ADone) byte = (byte ≡ 0xFD) ⊎ (byte ≡ 0xFE)
IsFirst (WithFields ADoneInProc) byte = byte ≡ 0xFF
IsFirst AReturn byte = byte ≡ 0xAC

-- The bytes are the first of such a token, and the rest.
abbrev pub StartsToken : Lead → List ℕ → List ℕ → Type 0
StartsToken lead rest bytes = (first : ℕ) × (bytes ≡ first ∷ rest) × IsFirst lead first

-- The fields of a DONE have its Status first, whose lowest bit says whether more follows.
abbrev pub SpellsMore : Bool → List ℕ → Type 0
SpellsMore true fields = slice_index fields 0 % 2 ≡ 1
SpellsMore false fields = slice_index fields 0 % 2 ≡ 0

-- The bytes spell a row of the columns.
abbrev pub SpellsRowToken : Charset → Option (List Column) → List Cell → List ℕ → Type 0
SpellsRowToken charset None cells bytes = ⊥
SpellsRowToken charset (Some columns) cells bytes = (rest : List ℕ)
    × ((StartsToken ARow rest bytes × SpellsRow PlainRow charset columns cells rest)
    ⊎ (StartsToken AnNbcRow rest bytes × SpellsRow NbcRow charset columns cells rest))

-- The bytes spell the token if these columns are described.
abbrev pub SpellsToken : Charset → ℕ → Option (List Column) → Token → List ℕ → Type 0
SpellsToken charset room current (Metadata encoded columns) bytes = StartsToken AMetadata encoded bytes × SpellsDescription room columns encoded
SpellsToken charset room current NoMetadata bytes = StartsToken AMetadata (255 ∷ 255 ∷ []) bytes
SpellsToken charset room current (Row cells) bytes = SpellsRowToken charset current cells bytes
SpellsToken charset room current (PassedOver passed body) bytes = (rest : List ℕ) × StartsToken (WithBody (APassed passed)) rest bytes
    × SpellsBody body rest
SpellsToken charset room current (Error n) bytes = (rest : List ℕ) × (body : List ℕ) × StartsToken (WithBody AnError) rest bytes
    × SpellsBody body rest × SpellsNotice n body
SpellsToken charset room current (Info n) bytes = (rest : List ℕ) × (body : List ℕ) × StartsToken (WithBody AnInfo) rest bytes × SpellsBody body rest
    × SpellsNotice n body
SpellsToken charset room current (ReturnStatus n) bytes = (rest : List ℕ) × StartsToken (WithFields AStatus) rest bytes × (length rest ≡ 4)
    × (little rest ≡ n)
SpellsToken charset room current (Returned r) bytes = (rest : List ℕ) × StartsToken AReturn rest bytes × SpellsReturnValue r rest
SpellsToken charset room current (Done m) bytes = (fields : List ℕ) × StartsToken (WithFields ADone) fields bytes × (length fields ≡ 12)
    × SpellsMore m fields
SpellsToken charset room current (DoneInProc m) bytes = (fields : List ℕ) × StartsToken (WithFields ADoneInProc) fields bytes × (length fields ≡ 12)
    × SpellsMore m fields

-- The bytes spell the tokens one after the other, each row under the nearest description before it.
abbrev pub SpellsTokens : Charset → ℕ → Option (List Column) → List Token → List ℕ → Type 0
SpellsTokens charset room current [] bytes = bytes ≡ []
SpellsTokens charset room current (t ∷ ts) bytes = (front : List ℕ) × (rest : List ℕ) × (bytes ≡ front ++ rest)
    × SpellsToken charset room current t front × SpellsTokens charset room (described_after current (t ∷ [])) ts rest

-- The payload spells the tokens of a response, which ends with a final DONE.
pub record Response (charset : Charset) (room : ℕ) (tokens : List Token) (payload : List ℕ) : Type 0 where
  pub spelt : SpellsTokens charset room None tokens payload
  pub final : is_final tokens ≡ true

-- The input begins with a message whose payload is a response of these tokens.
pub record Accepted (charset : Charset) (size room limit : ℕ) (tokens : List Token) (packets : List Packet) (input : List ℕ) : Type 0 where
  pub wire : List ℕ
  pub unread : List ℕ
  pub begins : input ≡ wire ++ unread
  pub message : Message size limit packets wire
  pub response : Response charset room tokens (payload_of packets)
