-- The text so far is no longer than 64 bytes for each byte read.
use Rattle.tds_export.proofs as N
use N.{Conversion, HexDigits, List, [], arith, choose, emit, length, true, ℕ, ◌*◌, ◌++◌, ◌+◌, ◌∷◌, ◌≡◌, ◌≤◌, ⊤, Bool, Column, None, Part, Some}
use N.{false, joined, length-append, response, text}
use N.SomeBytes.{byte_below, little_below}
use N.TokenLaws.{bare, bare_body, bare_fixed, begun_after, texts}
use N.Words.{utf16_chars}
use Rattle.tds_values.specs.declared.kind.Kind.TheVariants as kinds

-- ---- the text of data

-- four bytes for each character, with its quotes doubled
characters_length : (cs : List ℕ) → length (N.doubled (N.encode_utf8_all cs)) ≤ 4 * length cs
characters_length [] = omega arith
characters_length (c ∷ cs) = grind (arith, N.doubled-append, N.doubled_length, length-append, (characters_length cs))

-- no more characters than units
chars_length : (us : List ℕ) → length (utf16_chars us) ≤ length us
unfolding utf16_chars
chars_length [] = omega arith
chars_length (u ∷ []) = omega arith
chars_length (u ∷ v ∷ us) = grind (arith, choose, (chars_length (v ∷ us)), (chars_length us))

-- a byte is doubled at most
doubled_most : (bytes : List ℕ) → length (N.doubled bytes) ≤ 2 * length bytes
doubled_most [] = omega arith
doubled_most (b ∷ bytes) = grind (arith, length-append, (doubled_most bytes))

-- four bytes for each byte
conversion_length : (c : Conversion) (bytes : List ℕ) → length (N.conversion_text c bytes) ≤ 4 * length bytes
conversion_length = grind (arith, characters_length, chars_length, doubled_most, N.length-encode_with, N.length-map, N.length-units)

-- nor is the fixed text longer
emit_length : (c : Conversion) (bytes : List ℕ) → length (emit (N.conversion_rest c) (N.conversion_text c) bytes) ≤ 4 * length bytes
emit_length = grind (arith, conversion_length, N.length-take)

-- a field that is open
open_length : (c : Conversion) (bytes : List ℕ) → length (N.open_field c bytes) ≤ 2 + 4 * length bytes
open_length HexDigits bytes = omega (arith, emit_length HexDigits bytes)
open_length c bytes = omega (arith, emit_length c bytes)

-- a whole field
long_length : (c : Conversion) (bytes : List ℕ) → length (N.long_field c bytes) ≤ 2 + 4 * length bytes
long_length HexDigits bytes = omega (arith, conversion_length HexDigits bytes)
long_length c bytes = omega (arith, conversion_length c bytes, length-append (N.conversion_text c bytes) (N.quote ∷ []))

-- ---- the text of a scalar

-- the numbers of a value, if there is one, fit
abbrev AllFit : N.Option N.ScalarValue → Type 0
AllFit None = ⊤
AllFit (Some v) = N.FitsWidths v

-- the bytes of a kind spell numbers that fit
values_fit : (kind : N.Kind) (e : List ℕ) → N.AreBytes e → N.is_length_allowed kind (length e) ≡ true → AllFit (N.value_of kind e)
values_fit = grind (arith, N.common_steps, byte_below, choose, little_below)

-- the text of a value that is read
abbrev ReadShort : N.Result N.ScalarValue N.ValueFault → Type 0
ReadShort (N.Ok v) = length (N.text_of v) ≤ 41
ReadShort (N.Err f) = ⊤

-- a value in its range has a short text
checked_short : (o : N.Option N.ScalarValue) → AllFit o → ReadShort (N.checked o)
checked_short = grind (arith, choose, N.length-text_of)

-- so has each value that is read
read_short : (kind : N.Kind) (e : List ℕ) → N.AreBytes e → ReadShort (N.read_of kind e)
read_short = grind (arith, choose, checked_short, values_fit)

-- ---- fields

-- one more field, and a comma
one_more_length : (fs : List (List ℕ)) (f : List ℕ) → length (joined (fs ++ f ∷ [])) ≤ length (joined fs) + 1 + length f
one_more_length fs f = rw (← N.joined_snoc fs f) (grind (arith, length-append))

-- ---- a cell

-- the most that its field has so far
abbrev cell_most : N.CellPart → ℕ
cell_most (N.WholeCell x) = length (N.field x)
cell_most (N.ShortData c left content) = 2 + 4 * length content
cell_most (N.ChunkLength c total content) = 2 + 4 * length content
cell_most (N.ChunkData c total left content) = 2 + 4 * length content
cell_most p = 0

-- each element of a cell adds no more
cell_more : (column : ℕ) (p : N.CellPart) {e : List ℕ} → N.AreBytes e → N.IsNext (N.cell column) p e
    → cell_most (N.cell_add p e) ≤ cell_most p + 48 + 4 * length e
cell_more = grind (arith, choose, length-append, long_length, read_short)

-- ---- a row, whose cells to come that are NULL by their bit are paid by the bitmap

-- how many of the columns are NULL by their bit
abbrev how_many_null : List (Column × Bool) → ℕ
how_many_null [] = 0
how_many_null ((k, true) ∷ ks) = 1 + how_many_null ks
how_many_null ((k, false) ∷ ks) = how_many_null ks

-- the most that a row has so far, and what is paid for
abbrev row_most : N.RowPart → ℕ
row_most (N.Bitmap columns) = 0
row_most (N.InCell cells part ks) = length (joined (N.map N.field cells)) + 1 + cell_most part + 5 * how_many_null ks
row_most (N.WholeRow cells) = length (joined (N.map N.field cells)) + 2

-- no more of them than columns
null_most : (columns : List Column) (nulls : ℕ → Bool) (k : ℕ) → how_many_null (N.marked columns nulls k) ≤ length columns
null_most [] _ k = omega arith
null_most (c ∷ columns) nulls k = grind (arith, (null_most columns nulls (k + 1)))

-- none without a bitmap
none_null : (columns : List Column) (k : ℕ) → how_many_null (N.marked columns (λ i. false) k) ≡ 0
none_null [] k = N.refl
none_null (c ∷ columns) k = none_null columns (k + 1)

module _ (charset : N.Charset) where
  -- the cells to come begin
  next_length : (cells : List N.Cell) (ks : List (Column × Bool))
      → row_most (N.next_cell charset cells ks) ≤ length (joined (N.map N.field cells)) + 5 * how_many_null ks + 2
  next_length _ [] = grind (arith, joined)
  next_length cells ((k, true) ∷ ks) = grind (arith, N.map-append, one_more_length, (next_length (cells ++ N.Null ∷ []) ks))
  next_length _ ((k, false) ∷ ks) = grind arith

-- ---- a description, whose columns pay for its header

-- the header of the columns so far, and the line before it
abbrev described_pending : N.DescriptionPart → ℕ
described_pending (N.InColumn bytes count columns place) = 2 + length (N.header_line columns)
described_pending (N.WholeDescription bytes columns) = 2 + length (N.header_line columns)
described_pending d = 0

-- one more column in the header
header_more : (columns : List Column) (c : Column) → length (N.header_line (columns ++ c ∷ [])) ≤ length (N.header_line columns) + 3 + 4 * length c.name
header_more columns c =
    let fs = N.map N.name_field columns in
    let f = N.name_field c in
    omega (
      arith,
      one_more_length fs f,
      long_length N.Utf16Text c.name,
      N.ap (λ v. length (N.line v)) (N.map-append N.name_field columns (c ∷ [])),
      length-append (joined (fs ++ f ∷ [])) N.line_end,
      length-append (joined fs) N.line_end,
    )

module _ (room : ℕ) where
  -- each element of a description pays for what it adds
  described_more : {d : N.DescriptionPart} {e : List ℕ} → N.IsNext (N.description room) d e
      → described_pending (N.add_described d e) ≤ described_pending d + 64 * length e
  described_more = grind (arith, choose, header_more)

-- ---- a response

-- the most that the token that is read has so far, and what is paid for
abbrev open_most : N.Open → ℕ
open_most (N.Describing d) = described_pending d
open_most (N.InRow part) = row_most part
open_most at = 0

-- the most that the text so far has, and what is paid for
abbrev grown : Part → ℕ
grown p = length (text p.tokens) + open_most p.at

-- a row in its response
with_row_grown : (tokens : List N.Token) (part : N.RowPart) → grown (N.with_row tokens part) ≤ length (text tokens) + row_most part
with_row_grown = grind (arith, length-append, begun_after, texts)

module _ (charset : N.Charset) (room : ℕ) where
  -- each element pays for what it adds
  grown_more : (p : Part) (e : List ℕ) → N.AreBytes e → N.IsNext (response charset room) p e → grown ((response charset room).add p e) ≤ grown p + 64 * length e
  grown_more = grind (
    arith,
    bare_body,
    bare_fixed,
    bare,
    choose,
    described_more,
    N.ReadingGrows.lead_cases,
    N.ResponseLaws.part_at,
    cell_more,
    next_length,
    null_most,
    N.map-append,
    one_more_length,
    none_null,
    with_row_grown,
    begun_after,
    texts,
    length-append,
  )

  -- the text so far is at most 64 times as long as all that is read
  pub bounded_along : {q : Part} {bytes : List ℕ} → N.AreBytes bytes → N.Spelt (response charset room) N.response_start bytes q
      → length (N.text_so_far q) ≤ 64 * length bytes
  bounded_along {q} are h =
      let all = N.SomeBytes.bytes_induct (λ r b. grown r ≤ 64 * length b) (grind (arith, grown_more, length-append)) _ (omega arith) _ q are h in
      grind (arith, one_more_length, open_length, length-append)
