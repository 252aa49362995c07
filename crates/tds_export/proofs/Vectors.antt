-- Worked payloads.
use Rattle.tds_export.proofs as N
use N.{BadText, Fault, Flt8, List, MessageEnded, None, Option, Part, Some, Windows1252, [], length, map, read, refl, replicate, response, rows, ℕ, ◌++◌, ◌-◌}
use N.{◌∷◌, ◌≡◌}
use N.Words.{chars, date_of, digits, encode_utf8, encode_with, is_utf8, named_kind, refused_kind, rest_length, utf16_chars}
use N.Words.{utf8_error_len, utf8_valid_len, uuid_on_literals}
use Prim.Native.String.{String}
use Rattle.tds_packet.proofs.Feeding.{Progress}
use Rattle.std.specs.Prelude.{codes}
use Rattle.std.specs.List.{concat}
use Rattle.tds_values.proofs.HexTexts.{hex}

-- how far a payload is read, its text so far, and its fault where the message ends there
abbrev pub Answer : Type 0
Answer = ℕ × List ℕ × Option Fault

abbrev answer_of : N.Charset → ℕ → ℕ → Progress Part Fault → Answer
answer_of charset room n p = (n - length (N.rest_of p), N.text_so_far (N.state_of p), N.fault_of (response charset room) p)

abbrev answer : N.Charset → ℕ → List ℕ → Answer
answer charset room payload = answer_of charset room (length payload) (read (response charset room) N.response_start payload)

-- Each payload has the answer beside it.
abbrev HaveAnswers : N.Charset → ℕ → List (List ℕ × Answer) → Type 0
HaveAnswers charset room rows = map (λ row. answer charset room row.0) rows ≡ map (λ row. row.1) rows

-- the beginnings of a list, the shortest first
abbrev beginnings : List ℕ → List (List ℕ)
beginnings [] = [] ∷ []
beginnings (x ∷ xs) = [] ∷ map (λ front. x ∷ front) (beginnings xs)

-- a DONE after which nothing follows
abbrev a_done : List ℕ
a_done = hex "FD 00 00 00 00 00 00 00 00 00 00 00 00"

-- what begins with a description of one column, its type byte and what follows given
abbrev column : String → List ℕ
column bytes = hex "81 01 00 00 00 00 00 00 00" ++ hex bytes

-- what begins with a column of varbinary(10), varbinary(max), varchar(10), varchar(max) or nvarchar(max) named d, and the
-- token byte of a ROW
abbrev bytes_row : String → List ℕ
bytes_row bytes = column "A5 0A 00 01 64 00 D1" ++ hex bytes

abbrev byte_chunks : String → List ℕ
byte_chunks bytes = column "A5 FF FF 01 64 00 D1" ++ hex bytes

abbrev text_row : String → List ℕ
text_row bytes = column "A7 0A 00 09 04 D0 00 34 01 64 00 D1" ++ hex bytes

abbrev text_chunks : String → List ℕ
text_chunks bytes = column "A7 FF FF 09 04 D0 00 34 01 64 00 D1" ++ hex bytes

abbrev wide_chunks : String → List ℕ
wide_chunks bytes = column "E7 FF FF 09 04 D0 00 34 01 64 00 D1" ++ hex bytes

-- a return value named p, its type byte and what follows given
abbrev returned : String → List ℕ
returned bytes = hex "AC 01 00 02 40 00 70 00 01 00 00 00 00 00 00" ++ hex bytes

-- a description of nine columns of a type without names
abbrev nine : String → List ℕ
nine info = hex "81 09 00" ++ concat (replicate 9 (hex "00 00 00 00 00 00" ++ hex info ++ hex "00"))

-- an int column and a row
abbrev one_column : List ℕ
one_column = column "38 01 61 00 D1 2A 00 00 00 FD 10 00 C1 00 01 00 00 00 00 00 00 00"

-- two int columns, and nine without names
abbrev two_columns : List ℕ
two_columns = hex "81 02 00 00 00 00 00 00 00 38 01 61 00 00 00 00 00 00 00 38 01 62 00" ++ a_done

abbrev nine_columns : List ℕ
nine_columns = nine "38" ++ a_done

-- descriptions, with the room and the answer
abbrev described_in : List (ℕ × List ℕ × Answer)
described_in =
    -- too many columns for the room
    (1024, hex "81 FE FF", (1, [], Some N.DescriptionTooLong)) ∷
    -- room for the description
    (12, one_column, (31, codes "\"a\"\r\n42\r\n", None)) ∷
    -- room for all but one byte
    (11, one_column, (10, [], Some N.DescriptionTooLong)) ∷
    -- room for two columns
    (22, two_columns, (36, codes "\"a\",\"b\"\r\n", None)) ∷
    -- one byte less
    (21, two_columns, (20, [], Some N.DescriptionTooLong)) ∷
    -- less than eight bytes a column
    (17, two_columns, (1, [], Some N.DescriptionTooLong)) ∷
    -- room for nine columns without names
    (74, nine_columns, (88, codes "\"\",\"\",\"\",\"\",\"\",\"\",\"\",\"\",\"\"\r\n", None)) ∷
    -- one byte less
    (73, nine_columns, (1, [], Some N.DescriptionTooLong)) ∷
    []

-- ---- payloads that stop, completed

abbrev complete : ℕ → List ℕ → Progress Part Fault → Option Fault
complete room payload p = N.fault_of (response Windows1252 room)
    (read (response Windows1252 room) N.response_start (N.take (length payload - length (N.rest_of p)) payload ++ N.completion (N.state_of p)))

abbrev completed : ℕ → List ℕ → Option Fault
completed room payload = complete room payload (read (response Windows1252 room) N.response_start payload)

-- Each beginning of each payload is accepted once it is completed.
abbrev AreCompleted : List (List ℕ) → Type 0
AreCompleted payloads = map (λ payload. map (completed 1048576) (beginnings payload)) payloads ≡ map
    (λ payload. map (λ front. None) (beginnings payload)) payloads

-- the answers of whole payloads, of beginnings, and of those that are completed
worked :
    -- payloads in Windows-1252
    (HaveAnswers Windows1252 1048576 (
    -- whole responses
    (one_column, (31, codes "\"a\"\r\n42\r\n", None)) ∷
    -- a DONE alone
    (a_done, (13, [], None)) ∷
    -- a character in three chunks
    (
      (wide_chunks "04 00 00 00 00 00 00 00 01 00 00"
          ++ hex "00 3D 02 00 00 00 D8 00 01 00 00 00 DE 00 00 00 00" ++ a_done),
      (62, hex "22 64 22 0D 0A 22 F0 9F 98 80 22 0D 0A", None),
    ) ∷
    -- one NULL by its bit and one by its length
    (hex "81 02 00 00 00 00 00 00 00 38 01 61 00 00 00 00 00 00 00 26 04 01 62 00 D2 01 00" ++ a_done, (40, codes "\"a\",\"b\"\r\nNULL,NULL\r\n", None)) ∷
    -- padding bits are ignored
    (
      hex "81 02 00 00 00 00 00 00 00 38 01 61 00 00 00 00 00 00 00 26 04 01 62 00 D2 FC 2A 00 00 00 00" ++ a_done,
      (44, codes "\"a\",\"b\"\r\n42,NULL\r\n", None),
    ) ∷
    -- two sets, an INFO and an ERROR
    (
      (column "38 01 61 00 D1 01 00 00 00 AB 10 00 45 16 00 00 02 00 01 00 78 00 00"
          ++ hex "00 01 00 00 00 D1 02 00 00 00 FD 01 00 00 00 00 00 00 00 00 00 00 00 AA 12 00 D0 00 00 00 01 10"
          ++ hex "02 00 6E 00 6F 00 00 00 01 00 00 00 81 01 00 00 00 00 00 00 00 38 01 62 00 D1 03 00 00 00 FD 02"
          ++ hex "00 00 00 00 00 00 00 00 00 00 00"),
      (107, codes "\"a\"\r\n1\r\n2\r\n\r\n\"b\"\r\n3\r\n", None),
    ) ∷
    -- tokens, descriptions and values that are refused, or cut
    -- a kind refused by name
    (hex "81 02 00 00 00 00 00 00 00 38 01 61 00 00 00 00 00 00 00 3E 01 62 00", (13, [], Some (N.RefusedColumn 1 Flt8))) ∷
    -- a row without columns
    (hex "D1", (0, [], Some N.RowWithoutColumns)) ∷
    -- a row after no metadata
    (hex "81 FF FF D1", (3, [], Some N.RowWithoutColumns)) ∷
    -- no columns
    (hex "81 00 00", (1, [], Some N.NoColumns)) ∷
    -- a token that is refused
    (hex "AD", (0, [], Some (N.RefusedToken 0xAD))) ∷
    -- an ERROR whose Length is too small
    (hex "AA 05 00", (1, [], Some N.BadNotice)) ∷
    -- a DONE after which more follows
    (hex "FD 01 00 00 00 00 00 00 00 00 00 00 00", (13, [], Some N.EndWithoutDone)) ∷
    -- a whole number of three bytes
    (column "26 03", (10, [], Some (N.BadTypeInfo 0))) ∷
    -- an unknown type byte
    (column "1F", (3, [], Some (N.UnknownType 0 0x1F))) ∷
    -- a floating-point type byte
    (column "6D", (3, [], Some (N.RefusedColumn 0 N.FltN))) ∷
    -- a date after the last one
    (column "28 01 64 00 D1 03 DB B9 37", (15, codes "\"d\"\r\n", Some (N.BadValue 0))) ∷
    -- a date of four bytes
    (column "28 01 64 00 D1 04 00", (14, codes "\"d\"\r\n", Some (N.BadValueLength 0))) ∷
    -- the message ends after the second chunk
    (wide_chunks "04 00 00 00 00 00 00 00 01 00 00 00 3D 02 00 00 00 D8 00", (40, codes "\"d\"\r\n\"", Some MessageEnded)) ∷
    -- an odd sum at the terminator
    (wide_chunks "FE FF FF FF FF FF FF FF 01 00 00 00 41 00 00 00 00", (34, codes "\"d\"\r\n\"", Some (N.OddText 0))) ∷
    -- an odd total
    (wide_chunks "03 00 00 00 00 00 00 00", (21, codes "\"d\"\r\n", Some (N.OddText 0))) ∷
    -- a chunk that passes the total
    (byte_chunks "03 00 00 00 00 00 00 00 04 00 00 00", (24, codes "\"d\"\r\n0x", Some (N.PlpLength 0))) ∷
    -- a terminator before the total is reached
    (byte_chunks "04 00 00 00 00 00 00 00 03 00 00 00 01 02 03 00 00 00 00", (31, codes "\"d\"\r\n0x010203", Some (N.PlpLength 0))) ∷
    -- a total that no chunks reach
    (byte_chunks "FD FF FF FF FF FF FF FF 00 00 00 00", (24, codes "\"d\"\r\n0x", Some (N.PlpLength 0))) ∷
    -- values in rows and return values
    -- a decimal
    (column "6A 05 05 02 01 64 00 D1 05 01 39 30 00 00" ++ a_done, (36, codes "\"d\"\r\n123.45\r\n", None)) ∷
    -- one tick more than a day has
    (column "3D 01 64 00 D1 00 00 00 00 00 82 8B 01", (14, codes "\"d\"\r\n", Some (N.BadValue 0))) ∷
    -- two bytes as digits
    (bytes_row "02 00 0A FF" ++ a_done, (33, codes "\"d\"\r\n0x0aff\r\n", None)) ∷
    -- no bytes
    (bytes_row "00 00" ++ a_done, (31, codes "\"d\"\r\n0x\r\n", None)) ∷
    -- NULL
    (bytes_row "FF FF" ++ a_done, (31, codes "\"d\"\r\nNULL\r\n", None)) ∷
    -- the euro sign, a quote and an accent
    (text_row "03 00 80 22 E9" ++ a_done, (39, hex "22 64 22 0D 0A 22 E2 82 AC 22 22 C3 A9 22 0D 0A", None)) ∷
    -- no text
    (text_row "00 00" ++ a_done, (36, codes "\"d\"\r\n\"\"\r\n", None)) ∷
    -- NULL
    (text_row "FF FF" ++ a_done, (36, codes "\"d\"\r\nNULL\r\n", None)) ∷
    -- units without partners
    (column "E7 14 00 09 04 D0 00 34 01 64 00 D1 06 00 00 D8 41 00 00 DC" ++ a_done, (42, hex "22 64 22 0D 0A 22 EF BF BD 41 EF BF BD 22 0D 0A", None)) ∷
    -- nine columns, NULL by their bits
    (
      nine "26 04" ++ hex "D2 FF 01" ++ a_done,
      (100, codes "\"\",\"\",\"\",\"\",\"\",\"\",\"\",\"\",\"\"\r\nNULL,NULL,NULL,NULL,NULL,NULL,NULL,NULL,NULL\r\n", None),
    ) ∷
    -- nine columns, NULL by their bits
    (
      nine "26 04" ++ hex "D2 FF FF" ++ a_done,
      (100, codes "\"\",\"\",\"\",\"\",\"\",\"\",\"\",\"\",\"\"\r\nNULL,NULL,NULL,NULL,NULL,NULL,NULL,NULL,NULL\r\n", None),
    ) ∷
    -- ---- return values, which have no text
    -- a return value: no text
    (returned "26 04 04 07 00 00 00" ++ a_done, (35, [], None)) ∷
    -- a floating-point type
    (returned "3E 04 04 07 00 00 00", (8, [], Some (N.RefusedColumn 65535 Flt8))) ∷
    -- an unknown type
    (returned "1F 04 04 07 00 00 00", (8, [], Some (N.UnknownType 65535 31))) ∷
    -- a described length of three
    (returned "26 03 04 07 00 00 00", (16, [], Some (N.BadTypeInfo 65535))) ∷
    -- a value of two bytes
    (returned "26 04 02 07 00 00 00", (17, [], Some (N.BadValueLength 65535))) ∷
    -- the message ends in the value
    (returned "26 04 04 07 00", (18, [], Some MessageEnded)) ∷
    -- a fixed type and no name
    (hex "AC 00 00 00 00 00 00 00 00 00 00 38 2A 00 00 00" ++ a_done, (29, [], None)) ∷
    []))
    -- descriptions in rooms of these sizes
    × (map (λ row. answer Windows1252 row.0 row.1) described_in ≡ map (λ row. row.2) described_in)
    -- each beginning of the first response, with equal answers together
    × (map (answer Windows1252 1048576) (beginnings one_column) ≡
    replicate 1 (0, [], Some N.EndWithoutDone) ++
    replicate 2 (1, [], Some MessageEnded) ++
    replicate 7 (3, [], Some MessageEnded) ++
    replicate 1 (10, [], Some MessageEnded) ++
    replicate 2 (11, [], Some MessageEnded) ++
    replicate 1 (13, codes "\"a\"\r\n", Some N.EndWithoutDone) ++
    replicate 4 (14, codes "\"a\"\r\n", Some MessageEnded) ++
    replicate 1 (18, codes "\"a\"\r\n42\r\n", Some N.EndWithoutDone) ++
    replicate 12 (19, codes "\"a\"\r\n42\r\n", Some MessageEnded) ++
    replicate 1 (31, codes "\"a\"\r\n42\r\n", None))
    -- text in UTF-8
    × (HaveAnswers N.Utf8 1048576 (
    -- three characters
    (text_row "07 00 C3 A9 22 F0 9F 98 80" ++ a_done, (43, hex "22 64 22 0D 0A 22 C3 A9 22 22 F0 9F 98 80 22 0D 0A", None)) ∷
    -- a surrogate
    (text_row "03 00 41 ED A0", (25, codes "\"d\"\r\n\"A", Some (BadText 0))) ∷
    -- a character that isn't whole
    (text_row "01 00 C3", (23, codes "\"d\"\r\n\"", Some (BadText 0))) ∷
    -- a byte that begins none
    (text_row "02 00 C0 80", (23, codes "\"d\"\r\n\"", Some (BadText 0))) ∷
    -- a character in two chunks
    ((text_chunks "FE FF FF FF FF FF FF FF 01 00 00" ++ hex "00 C3 01 00 00 00 A9 00 00 00 00" ++ a_done), (56, hex "22 64 22 0D 0A 22 C3 A9 22 0D 0A", None)) ∷
    -- a chunked value that ends within one
    (text_chunks "FE FF FF FF FF FF FF FF 01 00 00 00 C3 00 00 00 00", (34, codes "\"d\"\r\n\"", Some (BadText 0))) ∷
    -- a chunk with a byte that begins none
    (text_chunks "FE FF FF FF FF FF FF FF 01 00 00 00 C0", (33, codes "\"d\"\r\n\"", Some (BadText 0))) ∷
    -- bytes that are no UTF-8, passed over
    (hex "AC 00 00 00 00 00 00 00 00 00 00 A7 0A 00 09 04 D0 00 34 02 00 C0 80" ++ a_done, (36, [], None)) ∷
    []))
    -- a return value is counted
    × (N.how_many N.is_return ((N.state_of
    (read (response Windows1252 1048576) N.response_start
    (returned "26 04 04 07 00 00 00" ++ a_done))).tokens) ≡ 1)
    -- payloads that stop
    × (AreCompleted (
    -- a row of whole numbers
    column "38 01 61 00 D1 2A 00 00 00 FD 10 00 C1 00 01 00 00 00 00 00 00" ∷
    -- chunks of text of a known total
    wide_chunks "04 00 00 00 00 00 00 00 01 00 00 00 3D 02 00 00 00 D8 00 01 00 00 00 DE 00 00 00 00" ∷
    -- chunks of text of an unknown total
    wide_chunks "FE FF FF FF FF FF FF FF 01 00 00 00 3D 00 00 00 00" ∷
    -- an INFO after a row
    column "38 01 61 00 D1 01 00 00 00 AB 10 00 45 16 00 00 02 00 01 00 78" ∷
    -- a decimal, and an NBCROW
    hex "81 02 00 00 00 00 00 00 00 6A 05 05 02 01 61 00 00 00 00 00 00 00 26 04 00 D2" ∷
    -- a text in one piece
    column "E7 14 00 09 04 D0 00 34 00 D1 06 00 00 D8" ∷
    -- a return value
    returned "26 04 04 07 00 00 00" ∷
    -- a return value in chunks
    hex "AC 00 00 00 00 00 00 00 00 00 00 A7 FF FF 09 04 D0 00 34 03 00 00 00 00 00 00 00 01 00 00 00 C0" ∷
    []))
unfolding digits date_of utf16_chars encode_utf8 utf8_valid_len utf8_error_len is_utf8 chars encode_with rest_length named_kind refused_kind
    uuid_on_literals
worked = (refl, refl, refl, refl, refl, refl)
