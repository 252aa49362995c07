-- Tokens of a response, and what they say (MS-TDS, Packet Data Token Stream Definition).
use Rattle.std.specs.Prelude.{◌==◌, ◌+◌, ◌%◌, ℕ, Bool, true, false, List, [], ◌∷◌, ◌++◌, length, map, max, Option, Some, None, if◌then◌else◌}
use Rattle.std.specs.Prelude.{slice_index}
use Rattle.tds_values.specs.Numbers.{little}
use Rattle.tds_text.specs.Conversion.{Utf16Text, long_field}
use Rattle.tds_text.specs.Cutting.{whole_within}
use Rattle.tds_text.specs.Quoting.{line, line_end}
use Rattle.tds_text.specs.Utf16.{characters}
use Rattle.tds_columns.specs.Description.{Column}
use Rattle.tds_cells.specs.Cells.{Cell, field}
use Rattle.tds_export.specs.ReturnValue.{ReturnValue}
use Rattle.tds_export.specs.TokenBytes.{Fixed, AStatus, ADone, ADoneInProc, Passed}

-- the body of an ERROR or INFO
pub record Notice : Type 0 where
  pub number : ℕ
  pub state : ℕ
  pub class : ℕ
  pub message : List ℕ
  pub line_number : ℕ

-- a token
pub data Token : Type 0 where
  -- a description as it is encoded, from Count to its last name, and its columns
  Metadata : List ℕ → List Column → Token
  NoMetadata : Token
  Row : List Cell → Token
  -- a token that is passed over, and its body
  PassedOver : Passed → List ℕ → Token
  Error : Notice → Token
  Info : Notice → Token
  ReturnStatus : ℕ → Token
  Returned : ReturnValue → Token
  -- a DONE or DONEPROC, and whether more follows
  Done : Bool → Token
  DoneInProc : Bool → Token

-- the lowest bit of a DONE's Status, which says that more follows
abbrev pub more : List ℕ → Bool
more fields = slice_index fields 0 % 2 == 1

-- how many bytes the fields of a token have
abbrev pub fields_length : Fixed → ℕ
fields_length AStatus = 4
fields_length ADone = 12
fields_length ADoneInProc = 12

-- the token of these fields
abbrev pub fixed : Fixed → List ℕ → Token
fixed AStatus fields = ReturnStatus (little fields)
fixed ADone fields = Done (more fields)
fixed ADoneInProc fields = DoneInProc (more fields)

-- a column's name as a field
abbrev pub name_field : Column → List ℕ
name_field column = long_field Utf16Text column.name

-- the header line of a set
abbrev pub header_line : List Column → List ℕ
header_line columns = line (map name_field columns)

-- a text if it is wanted
abbrev pub text_if : Bool → List ℕ → List ℕ
text_if true piece = piece
text_if false piece = []

-- the line between two sets
abbrev pub between : Bool → List ℕ
between begun = text_if begun line_end

-- the text of tokens; begun says whether a set has begun before them
abbrev pub text_after : Bool → List Token → List ℕ
text_after begun [] = []
text_after begun (Metadata bytes columns ∷ ts) = (between begun ++ header_line columns) ++ text_after true ts
text_after begun (Row cells ∷ ts) = line (map field cells) ++ text_after begun ts
text_after begun (t ∷ ts) = text_after begun ts

-- the text of a response: each set's header line and rows, and an empty line between two sets
abbrev pub text : List Token → List ℕ
text = text_after false

-- whether the token begins a set
abbrev pub is_set : Token → Bool
is_set (Metadata bytes columns) = true
is_set t = false

-- whether the token is a row
abbrev pub is_row : Token → Bool
is_row (Row cells) = true
is_row t = false

-- whether the token is an ERROR
abbrev pub is_error : Token → Bool
is_error (Error n) = true
is_error t = false

-- whether the token is an INFO
abbrev pub is_info : Token → Bool
is_info (Info n) = true
is_info t = false

-- whether the token is a RETURNVALUE
abbrev pub is_return : Token → Bool
is_return (Returned r) = true
is_return t = false

-- how many tokens pass the test
abbrev pub how_many : (Token → Bool) → List Token → ℕ
how_many p [] = 0
how_many p (t ∷ ts) = if p t then 1 + how_many p ts else how_many p ts

-- the first ERROR
abbrev pub first_error : List Token → Option Notice
first_error [] = None
first_error (Error n ∷ ts) = Some n
first_error (t ∷ ts) = first_error ts

-- the last RETURNSTATUS, or the one before these tokens
abbrev pub return_status_after : Option ℕ → List Token → Option ℕ
return_status_after before [] = before
return_status_after before (ReturnStatus n ∷ ts) = return_status_after (Some n) ts
return_status_after before (t ∷ ts) = return_status_after before ts

-- the last RETURNSTATUS
abbrev pub return_status : List Token → Option ℕ
return_status = return_status_after None

-- the columns that are described after these tokens, or those before them
abbrev pub described_after : Option (List Column) → List Token → Option (List Column)
described_after before [] = before
described_after before (Metadata bytes columns ∷ ts) = described_after (Some columns) ts
described_after before (NoMetadata ∷ ts) = described_after None ts
described_after before (t ∷ ts) = described_after before ts

-- whether the tokens end with a DONE or DONEPROC after which no more follows
abbrev pub is_final : List Token → Bool
is_final [] = false
is_final (Done more ∷ []) = if more then false else true
is_final (t ∷ []) = false
is_final (t ∷ u ∷ ts) = is_final (u ∷ ts)

-- the encoded description that is current after these tokens, or the one before; empty if none is
abbrev pub encoded_after : List ℕ → List Token → List ℕ
encoded_after before [] = before
encoded_after before (Metadata bytes columns ∷ ts) = encoded_after bytes ts
encoded_after before (NoMetadata ∷ ts) = encoded_after [] ts
encoded_after before (t ∷ ts) = encoded_after before ts

-- how many bytes a COLMETADATA has after its token byte
abbrev pub span_of : Token → ℕ
span_of (Metadata bytes columns) = length bytes
span_of NoMetadata = 2
span_of t = 0

-- the most bytes that a COLMETADATA has after its token byte
abbrev pub greatest_span : List Token → ℕ
greatest_span [] = 0
greatest_span (t ∷ ts) = max (span_of t) (greatest_span ts)

-- the message of an error in UTF-8, within 512 bytes
abbrev pub message_text : Option Notice → List ℕ
message_text None = []
message_text (Some n) = whole_within 512 (characters n.message)

-- the text of the first error
abbrev pub error_text : List Token → List ℕ
error_text tokens = message_text (first_error tokens)
