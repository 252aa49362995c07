-- The element grammar of a response: how many bytes the next element has, its fault, and the state after it.
use Rattle.std.specs.Prelude.{◌≡◌, ◌==◌, ◌&&◌, ◌+◌, ◌*◌, ◌≤◌, ℕ, Bool, true, false, not, List, [], ◌∷◌, ◌++◌, length, take, drop, max, Option, Some}
use Rattle.std.specs.Prelude.{None, if◌then◌else◌, nat_lt, nat_le, slice_index}
use Rattle.tds_values.specs.Numbers.{little}
use Rattle.tds_columns.specs.Description.{Column, DescriptionPart, BeforeCount, NoDescription, WholeDescription, described_size, described_fault}
use Rattle.tds_columns.specs.Description.{add_described, span}
use Rattle.tds_values.specs.declared.charset.Charset.{Charset}
use Rattle.tds_cells.specs.Rows.{NbcRow, PlainRow, RowPart, WholeRow, row_start, row_size, row_fault, row_add, row_so_far}
use Rattle.tds_packet.specs.Elements.{Grammar}
use Rattle.tds_packet.specs.declared.fault.Fault.{Fault}
use Rattle.tds_packet.specs.declared.fault.Fault.TheVariants.{MessageEnded, EndWithoutDone, RefusedToken, RowWithoutColumns, BadNotice}
pub use Rattle.tds_export.specs.TokenBytes.{AnError, AnInfo, Bodied}
use Rattle.tds_export.specs.TokenBytes.{APassed, Fixed, Lead, AMetadata, ARow, AnNbcRow, WithBody, WithFields, AReturn, lead_of, is_row_lead}
use Rattle.tds_export.specs.ReturnValue.{ReturnPart, ReturnOrdinal, WholeReturn, return_size, return_fault, return_add}
use Rattle.tds_export.specs.Tokens.{Notice, Token, Metadata, NoMetadata, Row, PassedOver, Error, Info, Returned, described_after, fields_length}
use Rattle.tds_export.specs.Tokens.{fixed, is_final, text, greatest_span}

-- where a response is read
pub data Open : Type 0 where
  -- between tokens
  Between : Open
  -- in a COLMETADATA
  Describing : DescriptionPart → Open
  -- in a ROW or NBCROW
  InRow : RowPart → Open
  -- in a RETURNVALUE
  InReturn : ReturnPart → Open
  -- before the Length of a token with a body, and before its body
  TokenLength : Bodied → Open
  TokenBody : Bodied → ℕ → Open
  -- before the fields of a token with a fixed length
  Fields : Fixed → Open

-- a response as far as it is read: its whole tokens, and what is read of the next one
pub record Part : Type 0 where
  pub tokens : List Token
  pub at : Open

-- a response of which nothing is read
abbrev pub response_start : Part
response_start = record { tokens = []; at = Between }

-- a response after one more whole token
abbrev pub with_token : List Token → Token → Part
with_token tokens t = record { tokens = tokens ++ t ∷ []; at = Between }

-- a description in its response
abbrev pub with_described : List Token → DescriptionPart → Part
with_described tokens NoDescription = with_token tokens NoMetadata
with_described tokens (WholeDescription bytes columns) = with_token tokens (Metadata bytes columns)
with_described tokens d = record { tokens = tokens; at = Describing d }

-- a row in its response
abbrev pub with_row : List Token → RowPart → Part
with_row tokens (WholeRow cells) = with_token tokens (Row cells)
with_row tokens part = record { tokens = tokens; at = InRow part }

-- a return value in its response
abbrev pub with_return : List Token → ReturnPart → Part
with_return tokens (WholeReturn r) = with_token tokens (Returned r)
with_return tokens part = record { tokens = tokens; at = InReturn part }

-- a row that begins under the columns that are described; its byte is refused if there are none, so that part is never reached
abbrev pub start_of_row : List Token → (List Column → RowPart) → Option (List Column) → Part
start_of_row tokens start None = record { tokens = tokens; at = Between }
start_of_row tokens start (Some columns) = with_row tokens (start columns)

-- the state after the first byte of a token
abbrev pub after_lead : Charset → List Token → Lead → Part
after_lead charset tokens AMetadata = record { tokens = tokens; at = Describing BeforeCount }
after_lead charset tokens ARow = start_of_row tokens (row_start PlainRow charset) (described_after None tokens)
after_lead charset tokens AnNbcRow = start_of_row tokens (row_start NbcRow charset) (described_after None tokens)
after_lead charset tokens (WithBody b) = record { tokens = tokens; at = TokenLength b }
after_lead charset tokens (WithFields f) = record { tokens = tokens; at = Fields f }
after_lead charset tokens AReturn = record { tokens = tokens; at = InReturn ReturnOrdinal }

-- the same; the first byte of no token is refused before, so its part is never reached
abbrev pub after_first : Charset → List Token → Option Lead → Part
after_first charset tokens (Some lead) = after_lead charset tokens lead
after_first charset tokens None = record { tokens = tokens; at = Between }

-- the fault of a row's byte if no columns are described
abbrev pub row_byte_fault : Bool → Option (List Column) → Option Fault
row_byte_fault true None = Some RowWithoutColumns
row_byte_fault row columns = None

-- the fault of a byte between tokens: no such token, or a row without columns
abbrev pub lead_fault : Option (List Column) → ℕ → Option Lead → Option Fault
lead_fault current byte (Some lead) = row_byte_fault (is_row_lead lead) current
lead_fault current byte None = Some (RefusedToken byte)

-- where the server's name of a notice begins, with the byte that counts its units
abbrev pub server_at : List ℕ → ℕ
server_at body = 8 + 2 * little (take 2 (drop 6 body))

-- where the procedure's name of a notice begins, with the byte that counts its units
abbrev pub procedure_at : List ℕ → ℕ
procedure_at body = server_at body + 1 + 2 * slice_index body (server_at body)

-- where the line number of a notice begins
abbrev pub line_at : List ℕ → ℕ
line_at body = procedure_at body + 1 + 2 * slice_index body (procedure_at body)

-- whether the inner lengths of a notice's body stay within it
abbrev pub holds_notice : List ℕ → Bool
holds_notice body = nat_lt (server_at body) (length body) && nat_lt (procedure_at body) (length body) && nat_le (line_at body + 4) (length body)

-- The bytes are the body of an ERROR or INFO: 14 or more, and its inner lengths stay within it.
pub record IsNoticeBody (body : List ℕ) : Type 0 where
  pub long : 14 ≤ length body
  pub holds : holds_notice body ≡ true

-- what a notice's body says
abbrev pub notice_of : List ℕ → Notice
notice_of body = record {
  number = little (take 4 body);
  state = slice_index body 4;
  class = slice_index body 5;
  message = take (2 * little (take 2 (drop 6 body))) (drop 8 body);
  line_number = little (take 4 (drop (line_at body) body));
}

-- the token of a body that is read whole
abbrev pub bodied : Bodied → List ℕ → Token
bodied (APassed passed) body = PassedOver passed body
bodied AnError body = Error (notice_of body)
bodied AnInfo body = Info (notice_of body)

-- whether the token with this body is an ERROR or INFO
abbrev pub is_notice : Bodied → Bool
is_notice AnError = true
is_notice AnInfo = true
is_notice b = false

-- how many bytes the next element of a response has
abbrev pub part_size : Open → ℕ
part_size Between = 1
part_size (Describing d) = described_size d
part_size (InRow part) = row_size part
part_size (InReturn part) = return_size part
part_size (TokenLength b) = 2
part_size (TokenBody b n) = n
part_size (Fields f) = fields_length f

-- the fault of the next element of a response, if it has one
abbrev pub part_fault : ℕ → List Token → Open → List ℕ → Option Fault
part_fault room tokens Between element = lead_fault (described_after None tokens) (slice_index element 0) (lead_of (slice_index element 0))
part_fault room tokens (Describing d) element = described_fault room d element
part_fault room tokens (InRow part) element = row_fault part element
part_fault room tokens (InReturn part) element = return_fault part element
part_fault room tokens (TokenLength b) element = if is_notice b && nat_lt (little element) 14 then Some BadNotice else None
part_fault room tokens (TokenBody b n) element = if is_notice b && not (holds_notice element) then Some BadNotice else None
part_fault room tokens at element = None

-- a response with its next element
abbrev pub part_add : Charset → List Token → Open → List ℕ → Part
part_add charset tokens Between element = after_first charset tokens (lead_of (slice_index element 0))
part_add charset tokens (Describing d) element = with_described tokens (add_described d element)
part_add charset tokens (InRow part) element = with_row tokens (row_add charset part element)
part_add charset tokens (InReturn part) element = with_return tokens (return_add part element)
part_add charset tokens (TokenLength b) element =
    if little element == 0 then with_token tokens (bodied b []) else record { tokens = tokens; at = TokenBody b (little element) }
part_add charset tokens (TokenBody b n) element = with_token tokens (bodied b element)
part_add charset tokens (Fields f) element = with_token tokens (fixed f element)

-- the fault of a message that ends here, if it may not
abbrev pub part_end : List Token → Open → Option Fault
part_end tokens Between = if is_final tokens then None else Some EndWithoutDone
part_end tokens at = Some MessageEnded

-- How a response is read.
abbrev pub response : Charset → ℕ → Grammar Part Fault
response charset room = record {
  size = λ p. part_size p.at;
  fault = λ p element. part_fault room p.tokens p.at element;
  add = λ p element. part_add charset p.tokens p.at element;
  end_fault = λ p. part_end p.tokens p.at;
}

-- the text so far of a token that is read
abbrev pub open_text : Open → List ℕ
open_text (InRow part) = row_so_far part
open_text at = []

-- the text of a response so far
abbrev pub text_so_far : Part → List ℕ
text_so_far p = text p.tokens ++ open_text p.at

-- the span of a COLMETADATA that is read
abbrev pub open_span : Open → ℕ
open_span (Describing d) = span d
open_span at = 0

-- the greatest span of a COLMETADATA so far
abbrev pub span_so_far : Part → ℕ
span_so_far p = max (greatest_span p.tokens) (open_span p.at)
