-- What completes a response is read as its rest, and is bytes.
use Rattle.tds_export.proofs as N
use N.{Bool, Kind, List, None, Option, Some, arith, least_info, refl, true, ℕ, ◌<◌, ◌==◌, ◌∷◌, ◌≡◌, Cell, CellPart, ChunkData, ChunkLength, Column}
use N.{Conversion, Null, ShortData, Spelt, Time, WholeCell, WholeRow, Windows1252, [], bit, cell, false, is_valid, length, marked, row, suc, unit, zero}
use N.{zeros, ⊤, ◌%◌, ◌++◌, ◌+◌, ◌∙◌, ◌≤◌, ColumnHead, InColumn, int_columns, ◌*◌, ◌-◌, Guid, AreBytes, Done, InRow, Open, Token, response}
use N.ResponseLaws.{spelt_both, spelt_one, spelt_inside, value_agrees, body_is_read, described_after-append, row_agrees, return_agrees, part_at}
use N.SomeBytes.{Ends, exactly, then_ends, AreBytes-append, AreBytes-replicate}
use N.TokenLaws.{bare, bare_body, bare_fixed}
use N.Words.{named_kind, rest_length, return_value}

-- ---- the least TYPE_INFO of each type byte

-- it describes a kind, where the type byte is accepted
every_byte : N.agree_below (λ b. N.is_some (rest_length b)) (λ b. N.is_some (N.kind_of (b ∷ least_info b))) 256 ≡ true
unfolding rest_length named_kind
every_byte = refl

-- and a number above is no type byte
beyond : (byte n : ℕ) → rest_length byte ≡ Some n → byte < 256
unfolding rest_length
beyond = grind (arith, N.nat_tests)

-- After each type byte that is accepted its least rest describes a kind.
least_type : (byte : ℕ) {n : ℕ} → rest_length byte ≡ Some n → (kind : Kind) × N.IsTypeInfo kind (byte ∷ least_info byte)
least_type byte {n} h = N.is_some_value _ (cc (N.agree_below_at (λ b. N.is_some (rest_length b)) (λ b. N.is_some (N.kind_of (b ∷ least_info b)))
    256 byte every_byte (beyond _ n h)))

-- ---- what completes a cell and a row is read as their rest

-- the conversions that Windows-1252 names: none judges data before its end
abbrev is_plain : Conversion → Bool
is_plain N.Utf8Text = false
is_plain c = true

-- a known total is of whole units, and the sum may still become it
abbrev HoldsTotal : Conversion → Option ℕ → ℕ → Type 0
HoldsTotal c None sum = ⊤
HoldsTotal c (Some total) sum = (sum ≤ total) × (total % unit c ≡ 0)

-- what is known of a part of a cell that bytes led to
abbrev CellReached : CellPart → Type 0
CellReached (N.ScalarBytes kind n) = (0 < n) × (is_valid kind ≡ true) × (N.is_scalar kind ≡ true) × (N.is_length_allowed kind n ≡ true)
CellReached (N.ScalarLength kind) = (is_valid kind ≡ true) × (N.is_scalar kind ≡ true)
CellReached (N.ShortLength c) = is_plain c ≡ true
CellReached (ShortData c left content) = (is_plain c ≡ true) × ((length content + (left + 1)) % unit c ≡ 0)
CellReached (N.Total c) = is_plain c ≡ true
CellReached (ChunkLength c total content) = (is_plain c ≡ true) × HoldsTotal c total (length content)
CellReached (ChunkData c total left content) = (is_plain c ≡ true) × HoldsTotal c total (length content + (left + 1))
CellReached (WholeCell x) = ⊤

-- whether so many zeros are a value of a kind
abbrev are_read : Kind → ℕ → Bool
are_read kind n = N.is_ok (N.read_of kind (zeros n))

-- They are.
abbrev ZerosAre : Kind → ℕ → Type 0
ZerosAre kind n = are_read kind n ≡ true

-- so it is at a scale, where it is at each
at_scale : (K : ℕ → Kind) (size : ℕ → ℕ) → N.agree_below (λ sc. are_read (K sc) (size sc)) (λ _. true) 8 ≡ true → (scale n : ℕ)
    → is_valid (Time scale) ≡ true → (n == size scale) ≡ true → ZerosAre (K scale) n
at_scale K size all sc n v h = exactly (ZerosAre (K sc)) n _ h (N.agree_below_at (λ sc. are_read (K sc) (size sc)) (λ _. true) 8 sc all (grind arith))

zeros_are_a_value : (kind : Kind) (n : ℕ) → is_valid kind ≡ true → N.is_scalar kind ≡ true → N.is_length_allowed kind n ≡ true → ZerosAre kind n
zeros_are_a_value (Time sc) n v s h = at_scale Time N.time_length refl sc n v h
zeros_are_a_value (N.DateTime2 sc) n v s h = at_scale N.DateTime2 (λ sc. N.time_length sc + 3) refl sc n v h
zeros_are_a_value (N.DateTimeOffset sc) n v s h = at_scale N.DateTimeOffset (λ sc. N.time_length sc + 5) refl sc n v h
zeros_are_a_value _ n v s h = grind arith

zeros_next : (n : ℕ) → 0 ∷ zeros (n + 1) ≡ zeros (suc n + 1)
zeros_next = grind arith

module _ (column : ℕ) where
  -- the rest of a short value
  short_ends : (c : Conversion) (left : ℕ) (content : List ℕ) → CellReached (ShortData c left content)
      → Ends (cell column) WholeCell (ShortData c left content) (zeros (left + 1))
  short_ends c zero _ (plain, even) = (N.DataCell c _, spelt_one (omega arith) refl (grind (arith, N.length-append)) refl)
  short_ends c (suc left) content (plain, even) =
      let same : length (content ++ 0 ∷ []) + (left + 1) ≡ length content + (suc left + 1) = grind (arith, N.length-append) in
      rw (← zeros_next left) (then_ends {t = ShortData c left (content ++ 0 ∷ [])} {e = 0 ∷ []}
      (spelt_one (omega arith) refl (grind (arith, N.test_lt)) (grind arith)) (short_ends _ _ _ (plain, cc)))

  -- the rest of a chunk
  chunk_ends : {c : Conversion} {total : Option ℕ} (left : ℕ) {content : List ℕ} → is_plain c ≡ true
      → Spelt (cell column) (ChunkData c total left content) (zeros (left + 1)) (ChunkLength c total (content ++ zeros (left + 1)))
  chunk_ends zero plain = spelt_one (omega arith) refl (grind arith) refl
  chunk_ends {c} {total} (suc left) {content} plain =
      rw (← zeros_next left, ← N.append_assoc content (0 ∷ []) (zeros (left + 1)))
      (spelt_both {t = ChunkData c total left (content ++ 0 ∷ [])} {a = 0 ∷ []} (spelt_one (omega arith) refl (grind arith) (grind arith)) (chunk_ends _ plain))

  -- so many chunks of one zero byte, and the terminator
  chunks_end : {c : Conversion} {total : Option ℕ} (n : ℕ) {content : List ℕ} → is_plain c ≡ true → N.is_total total (length content + n) ≡ true
      → (length content + n) % unit c ≡ 0 → Ends (cell column) WholeCell (ChunkLength c total content) (N.zero_chunks n ++ N.terminator)
  chunks_end {c} zero {content} plain all even = (N.DataCell c content, spelt_one (omega arith) refl (grind arith) refl)
  chunks_end (suc n) {content} plain all even =
      let same : length content + suc n ≡ length (content ++ 0 ∷ []) + n = grind (arith, N.length-append) in
      then_ends {e = 1 ∷ 0 ∷ 0 ∷ 0 ∷ []} (spelt_one (omega arith) refl (grind arith) refl)
      (then_ends (chunk_ends 0 {content = content} plain) (chunks_end n plain (rw same at all) (rw same at even)))

  -- the rest of the chunks
  length_ends : {c : Conversion} (total : Option ℕ) {content : List ℕ} → is_plain c ≡ true → HoldsTotal c total (length content)
      → Ends (cell column) WholeCell (ChunkLength c total content) (N.rest_of_chunks c total (length content))
  length_ends None plain h = grind (arith, chunks_end)
  length_ends total plain h = grind (arith, chunks_end)

  -- A part of a cell followed by what completes it is a whole cell.
  cell_ends : (p : CellPart) → CellReached p → Ends (cell column) WholeCell p (N.rest_of_cell p)
  cell_ends (N.ScalarBytes kind n) (some, valid, scalar, allowed) =
      let v = N.is_ok_value (zeros_are_a_value _ n valid scalar allowed) in
      let l : length (zeros n) ≡ n = N.length-replicate n 0 in
      (N.ScalarCell v.0, spelt_one (omega arith) l (cc v.1) (cc v.1))
  cell_ends (N.ScalarLength kind) h = (Null, spelt_one (omega arith) refl refl refl)
  cell_ends (N.ShortLength c) h = (Null, spelt_one (omega arith) refl refl refl)
  cell_ends (ShortData c left content) h = short_ends c _ _ h
  cell_ends (N.Total c) h = (Null, spelt_one (omega arith) refl refl refl)
  cell_ends (ChunkLength c total content) (plain, h) = length_ends _ plain h
  cell_ends (ChunkData c total left content) (plain, h) =
      let l = N.length-append content (zeros (left + 1)) ∙ N.ap (λ v. length content + v) (N.length-replicate (left + 1) 0) in
      rw (← l) (then_ends (chunk_ends _ plain) (grind (arith, length_ends)))
  cell_ends (WholeCell x) h = (x, N.Spelt-none _ _)

  -- Each element keeps what is known.
  cell_keeps : (p : CellPart) {e : List ℕ} → AreBytes e → CellReached p → N.IsNext (cell column) p e → CellReached (N.cell_add p e)
  cell_keeps (N.Total c) are plain n = grind (arith, N.choose, N.SomeBytes.little_below)
  cell_keeps p are h n = grind (arith, N.length-append)

-- the kinds of the columns are valid
abbrev AreValid : List Column → Type 0
AreValid [] = ⊤
AreValid (c ∷ cs) = (is_valid c.kind ≡ true) × AreValid cs

-- so are those of columns with their null bits
abbrev AreMarkedValid : List (Column × Bool) → Type 0
AreMarkedValid [] = ⊤
AreMarkedValid ((c, null) ∷ ks) = (is_valid c.kind ≡ true) × AreMarkedValid ks

-- what is known of a part of a row that bytes led to
abbrev RowReached : N.RowPart → Type 0
RowReached (N.Bitmap columns) = (0 < length columns) × AreValid columns
RowReached (N.InCell cells part ks) = (0 < (cell 0).size part) × CellReached part × AreMarkedValid ks
RowReached (WholeRow cells) = ⊤

marked_valid : (columns : List Column) (nulls : ℕ → Bool) (k : ℕ) → AreValid columns → AreMarkedValid (marked columns nulls k)
marked_valid [] _ k h = tt
marked_valid (c ∷ cs) nulls k (v, h) = (v, marked_valid cs nulls _ h)

next_reached : (cells : List Cell) (ks : List (Column × Bool)) → AreMarkedValid ks → RowReached (N.next_cell Windows1252 cells ks)
next_reached _ [] h = tt
next_reached _ ((k, true) ∷ ks) (v, h) = next_reached _ ks h
next_reached _ ((k, false) ∷ ks) (v, h) = grind arith

-- the cell that is read, and those to come
part_ends : (before : List Cell) (part : CellPart) (ks : List (Column × Bool)) → CellReached part
    → ((b : List Cell) → Ends (row Windows1252) WholeRow (N.next_cell Windows1252 b ks) (N.rest_of_cells ks))
    → Ends (row Windows1252) WholeRow (N.with_cell Windows1252 before ks part) (N.rest_of_cell part ++ N.rest_of_cells ks)
part_ends before _ ks h next =
    let one = cell_ends _ _ h in
    then_ends (N.Inside-Spelt _ _ _ (N.cell_in_row Windows1252 _ _) _ _ _ one.1) (grind arith)

-- the cells to come
cells_end : (before : List Cell) (ks : List (Column × Bool)) → AreMarkedValid ks
    → Ends (row Windows1252) WholeRow (N.next_cell Windows1252 before ks) (N.rest_of_cells ks)
cells_end before [] h = (before, N.Spelt-none _ _)
cells_end before ((k, true) ∷ ks) (v, h) = cells_end (before ++ Null ∷ []) ks h
cells_end before ((k, false) ∷ ks) (v, h) = rw (← N.begins_open Windows1252 before ks k.kind _) (part_ends before _ ks (grind arith) (λ b. cells_end b ks h))

marked_clear : (columns : List Column) (nulls : ℕ → Bool) (k : ℕ) → ((i : ℕ) → nulls i ≡ false) → marked columns nulls k ≡ N.all_clear columns
marked_clear [] _ k h = refl
marked_clear (c ∷ cs) _ k h = λ i. (c, h k i) ∷ marked_clear cs _ (k + 1) h i

-- A part of a row followed by what completes it is a whole row.
row_ends : (p : N.RowPart) → RowReached p → Ends (row Windows1252) WholeRow p (N.rest_of_row p)
row_ends (N.Bitmap columns) (some, h) =
    let n = N.bitmap_length (length columns) in
    let l = N.length-replicate n 0 in
    let one : Spelt (row Windows1252) (N.Bitmap columns) (zeros n) (N.next_cell Windows1252 [] (marked columns (bit (zeros n)) 0)) =
    spelt_one (omega (arith, l)) l refl refl in
    let clear = marked_clear columns (bit (zeros n)) 0 (λ k. grind (arith, N.common_steps)) in
    then_ends (rw clear at one) (grind (arith, cells_end, marked_valid))
row_ends (N.InCell cells part ks) (begun, h, m) =
    let all = part_ends cells part ks h (λ b. cells_end b _ m) in
    grind arith
row_ends (WholeRow cells) h = (cells, N.Spelt-none _ _)

-- ---- what completes a description is read as its rest

-- what is known of the place in a column after these bytes, with so many columns to follow: the room is enough for what must still come
abbrev PlaceReached : ℕ → List ℕ → ℕ → N.ColumnPlace → Type 0
PlaceReached room bytes left ColumnHead = length bytes + (8 + 8 * left) ≤ room
PlaceReached room bytes left (N.ColumnInfo byte) = (n : ℕ) × (rest_length byte ≡ Some n) × (0 < n) × (length bytes + ((n + 1) + 8 * left) ≤ room)
PlaceReached room bytes left (N.NameCount kind) = (is_valid kind ≡ true) × (length bytes + (1 + 8 * left) ≤ room)
PlaceReached room bytes left (N.NameUnits kind n) = (is_valid kind ≡ true) × (0 < n) × (length bytes + (n + 8 * left) ≤ room)

-- what is known of a part of a description that bytes led to
abbrev DescribedReached : ℕ → N.DescriptionPart → Type 0
DescribedReached _ N.BeforeCount = ⊤
DescribedReached _ N.NoDescription = ⊤
DescribedReached room (InColumn bytes count cols place) = (length cols < count) × AreValid cols × PlaceReached room bytes (count - (length cols + 1)) place
DescribedReached _ (N.WholeDescription bytes cols) = (0 < length cols) × AreValid cols

AreValid-append : (cs : List Column) (c : Column) → AreValid cs → is_valid c.kind ≡ true → AreValid (cs ++ c ∷ [])
AreValid-append [] c h v = (v, tt)
AreValid-append (d ∷ cs) c h v = (h.0, AreValid-append cs c h.1 v)

-- the column that int_column describes
abbrev int : Column
int = record { kind = N.Int4; name = [] }

int_is_spelt : N.SpellsColumn int N.int_column
unfolding rest_length named_kind
int_is_spelt = record { ignored = zeros 6; info = 0x38 ∷ []; units = 0; spelt = refl; six = refl; kind = refl; counted = refl; byte = omega arith }

ints_are_spelt : (n : ℕ) → N.SpellsColumns (N.replicate n int) (int_columns n)
ints_are_spelt zero = refl
ints_are_spelt (suc n) = grind (arith, int_is_spelt, (ints_are_spelt n))

length-int_columns : (n : ℕ) → length (int_columns n) ≡ 8 * n
length-int_columns zero = refl
length-int_columns (suc n) = let l = length-int_columns n in omega arith

-- the rest of a description, up to its end
abbrev DescriptionEnds : ℕ → N.DescriptionPart → List ℕ → Type 0
DescriptionEnds room = Ends {X = List ℕ × List Column} (N.description room) (λ x. N.WholeDescription x.0 x.1)

module _ (room : ℕ) where
  -- the columns that aren't begun
  ints_end : (bytes : List ℕ) (count : ℕ) (cols : List Column) (n : ℕ) → count ≡ length cols + (1 + n) → length bytes + (8 + 8 * n) ≤ room
      → DescriptionEnds room (InColumn bytes count cols ColumnHead) (N.int_column ++ int_columns n)
  ints_end bytes _ cols n e fits =
      let l : length (int_columns (suc n)) ≡ 8 * suc n = length-int_columns _ in (
        (bytes ++ int_columns (suc n), cols ++ int ∷ N.replicate n int),
        N.columns_are_read _ _ _ _ _ _ _ (omega (arith, N.length-replicate n int)) (omega arith) (ints_are_spelt (suc n)),
      )

  -- after a column
  column_ends : (bytes : List ℕ) (count : ℕ) (cols : List Column) (c : Column) (n : ℕ) → count ≡ length cols + (1 + n) → length bytes + 8 * n ≤ room
      → DescriptionEnds room (N.with_column bytes count cols c) (int_columns n)
  column_ends bytes _ cols c zero e fits = ((bytes, cols ++ c ∷ []), grind arith)
  column_ends bytes count cols c (suc n) e fits =
      let to : N.with_column bytes count cols c ≡ InColumn bytes count (cols ++ c ∷ []) ColumnHead = grind arith in
      rw to (ints_end _ _ _ n (grind (arith, N.length-append)) (omega arith))

  count_ends : (bytes : List ℕ) (count : ℕ) (cols : List Column) (kind : Kind) (n : ℕ) → n ≡ count - (length cols + 1) → length cols < count
      → length bytes + (1 + 8 * n) ≤ room → DescriptionEnds room (InColumn bytes count cols (N.NameCount kind)) (0 ∷ int_columns n)
  count_ends _ _ _ _ n is fewer fits = then_ends {e = 0 ∷ []} (spelt_one (omega arith) refl (grind arith) refl)
      (grind (arith, column_ends, N.length-append))

  info_ends : (bytes : List ℕ) (count : ℕ) (cols : List Column) (byte : ℕ) (n : ℕ) → n ≡ count - (length cols + 1) → length cols < count
      → PlaceReached room bytes n (N.ColumnInfo byte)
      → DescriptionEnds room (InColumn bytes count cols (N.ColumnInfo byte)) (least_info byte ++ (0 ∷ int_columns n))
  info_ends bytes count cols byte n is fewer (m, known, some, fits) =
      let least = least_type byte known in
      then_ends {e = least_info byte} (spelt_one (grind arith) (grind arith) (grind arith)
      (N.ap (λ o. N.with_kind (bytes ++ least_info byte) count cols o) least.1))
      (grind (arith, count_ends, N.length-append))

  -- A part of a description that isn't all of it, followed by what completes it, is a whole one.
  described_ends : 10 ≤ room → (d : N.DescriptionPart) → 0 < (N.description room).size d → DescribedReached room d
      → DescriptionEnds room d (N.rest_of_description d)
  described_ends ten N.BeforeCount o h = then_ends {e = 1 ∷ 0 ∷ []} (grind (arith, spelt_one)) (ints_end (1 ∷ 0 ∷ []) 1 [] 0 refl (omega arith))
  described_ends ten (InColumn bytes count cols (N.ColumnInfo byte)) o (fewer, valid, fits) = rw N.append_assoc (info_ends _ _ _ _ _ refl fewer fits)
  described_ends ten (InColumn bytes count cols (N.NameUnits kind m)) o (fewer, valid, (v, some, fits)) =
      let l : length (zeros m) ≡ m = N.length-replicate m 0 in
      then_ends {e = zeros m} (spelt_one (omega arith) l refl refl) (grind (arith, column_ends, N.length-append))
  described_ends ten d o h = grind (arith, ints_end, count_ends)

-- ---- what completes a return value is read as its rest

-- what is known of a part of a return value that bytes led to
abbrev ReturnReached : N.ReturnPart → Type 0
ReturnReached (N.ReturnName n) = 0 < n
ReturnReached (N.ReturnInfo name byte) = (n : ℕ) × (rest_length byte ≡ Some n) × (0 < n)
ReturnReached (N.InReturnCell name kind part) = (0 < (cell 0).size part) × CellReached part
ReturnReached _ = ⊤

-- Each element keeps what is known.
return_keeps : (p : N.ReturnPart) {e : List ℕ} → AreBytes e → ReturnReached p → N.IsNext return_value p e → ReturnReached (N.return_add p e)
return_keeps (N.ReturnInfo name byte) are h n = grind arith
return_keeps p are h n = grind (arith, cell_keeps)

-- the rest of a return value, up to its end
abbrev ReturnEnds : N.ReturnPart → List ℕ → Type 0
ReturnEnds = Ends return_value N.WholeReturn

value_ends : (name : List ℕ) (kind : Kind) (part : CellPart) → CellReached part → ReturnEnds (N.with_value name kind part) (N.rest_of_cell part)
value_ends name kind _ h =
    let x = cell_ends _ _ h in
    (record { name = name; kind = kind; value = x.0 }, spelt_inside value_agrees x.1)

head_ends : {name : List ℕ} → ReturnEnds (N.ReturnHead name) N.rest_of_return_head
unfolding rest_length named_kind
head_ends {name} = then_ends {t = N.ReturnInfo name 0x24} {e = zeros 7 ++ 0x24 ∷ []} (grind (arith, spelt_one))
    (then_ends {e = 16 ∷ []} (grind (arith, spelt_one)) (value_ends name Guid (N.ScalarLength Guid) (grind arith)))

names_count_ends : ReturnEnds N.ReturnNameCount (0 ∷ N.rest_of_return_head)
names_count_ends = then_ends {e = 0 ∷ []} (grind (arith, spelt_one)) (head_ends {name = []})

-- A part of a return value followed by what completes it is a whole one.
return_ends : (p : N.ReturnPart) → ReturnReached p → ReturnEnds p (N.rest_of_return p)
return_ends N.ReturnOrdinal h = then_ends {e = zeros 2} (grind (arith, spelt_one)) names_count_ends
return_ends N.ReturnNameCount h = names_count_ends
return_ends (N.ReturnName n) h =
    let l = N.length-replicate n 0 in
    then_ends (spelt_one (omega arith) l refl refl) (head_ends)
return_ends (N.ReturnHead name) h = head_ends
return_ends (N.ReturnInfo name byte) (n, known, some) =
    let least = least_type byte known in
    then_ends {e = least_info byte} (spelt_one (grind arith) (grind arith) (grind arith) refl)
    (rw least.1 (value_ends name _ _ (grind arith)))
return_ends (N.InReturnCell name kind part) (begun, h) = let all = value_ends name kind part h in grind arith
return_ends (N.WholeReturn r) h = (r, N.Spelt-none _ _)

-- ---- what completes a response is read as its rest, and is bytes

-- what is known of the token that bytes led into: its next element has bytes
abbrev OpenReached : ℕ → Open → Type 0
OpenReached room (N.Describing d) = (0 < (N.description room).size d) × DescribedReached room d
OpenReached _ (InRow part) = (0 < (row Windows1252).size part) × RowReached part
OpenReached _ (N.InReturn part) = (0 < return_value.size part) × ReturnReached part
OpenReached _ (N.TokenBody b n) = (0 < n) × (N.is_notice b ≡ true → 14 ≤ n)
OpenReached _ at = ⊤

AreBytes-ints : (n : ℕ) → AreBytes (int_columns n)
AreBytes-ints zero = tt
AreBytes-ints (suc n) = grind (arith, (AreBytes-ints n))

AreBytes-zero_chunks : (n : ℕ) → AreBytes (N.zero_chunks n)
AreBytes-zero_chunks zero = tt
AreBytes-zero_chunks (suc n) = grind (arith, (AreBytes-zero_chunks n))

AreBytes-cells : (ks : List (Column × Bool)) → AreBytes (N.rest_of_cells ks)
AreBytes-cells [] = tt
AreBytes-cells ((k, true) ∷ ks) = AreBytes-cells ks
AreBytes-cells ((k, false) ∷ ks) = grind (arith, (AreBytes-cells ks))

-- the columns that are described are some, of valid kinds
abbrev CurrentReached : Option (List Column) → Type 0
CurrentReached None = ⊤
CurrentReached (Some columns) = (0 < length columns) × AreValid columns

-- what is known of a part of a response that bytes led to
abbrev PartReached : ℕ → N.Part → Type 0
PartReached room p = CurrentReached (N.described_after None p.tokens) × OpenReached room p.at

module _ (room : ℕ) where
  -- Each element keeps what is known.
  open_keeps : {tokens : List Token} (at : Open) {e : List ℕ} → AreBytes e → CurrentReached (N.described_after None tokens) → OpenReached room at
      → N.IsNext (response Windows1252 room) (part_at tokens at) e → PartReached room (N.part_add Windows1252 tokens at e)
  open_keeps (N.TokenLength b) are h o n = grind (arith, bare, bare_body, described_after-append, N.choose, N.eq_false, N.nat_tests)
  open_keeps (N.Describing d) are h o n = grind (
    arith,
    N.choose,
    AreValid-append,
    N.eq_false,
    N.known_type,
    N.bare_type,
    N.eq_true,
    N.is_some_value,
    N.some_kind,
    N.valid_of,
    N.length-append,
    N.not_zero,
    N.room_for,
    N.not_long,
    described_after-append,
  )
  open_keeps at are h o n = grind (arith, marked_valid, next_reached, described_after-append, cell_keeps, bare, return_keeps, bare_body, bare_fixed)

  -- The rest of the token that is read ends it.
  token_ends : 10 ≤ room → (tokens : List Token) (at : Open) → OpenReached room at
      → Ends (response Windows1252 room) N.after_tokens (part_at tokens at) (N.rest_of_token at)
  token_ends ten tokens N.Between o = (tokens, N.Spelt-none _ _)
  token_ends ten tokens (N.Describing d) (begun, r) =
      let all = described_ends _ ten d begun r in
      let read = spelt_inside (N.ResponseLaws.description_agrees Windows1252 room {tokens = tokens}) all.1 in
      grind arith
  token_ends ten tokens (InRow part) (begun, r) =
      let all = row_ends _ r in
      let read = spelt_inside (row_agrees Windows1252 room {tokens = tokens}) all.1 in
      grind arith
  token_ends ten tokens (N.InReturn part) (begun, r) =
      let all = return_ends _ r in
      let read = spelt_inside (return_agrees Windows1252 room {tokens = tokens}) all.1 in
      grind arith
  token_ends ten tokens (N.TokenLength (N.APassed passed)) o =
      (tokens ++ N.PassedOver passed [] ∷ [], body_is_read Windows1252 _ (zeros 2) _ refl refl refl refl)
  token_ends ten tokens (N.TokenLength b) o = (
    tokens ++ N.bodied b (zeros 14) ∷ [],
    body_is_read Windows1252 _ (14 ∷ 0 ∷ []) (zeros 14) refl refl (grind arith) grind arith,
  )
  token_ends ten tokens (N.TokenBody b n) (some, long) =
      let l : length (zeros n) ≡ n = N.length-replicate n 0 in
      (tokens ++ N.bodied b (zeros n) ∷ [], spelt_one (omega arith) l (grind (arith, N.common_steps)) refl)
  token_ends ten tokens (N.Fields f) o =
      let l = N.length-replicate (N.fields_length f) 0 in
      (tokens ++ N.fixed f _ ∷ [], spelt_one (grind arith) l refl refl)

-- Whatever has been read can be completed.
pub can_be_completed : N.CanBeCompleted
can_be_completed room _ _ ten are h =
    let r = N.SomeBytes.bytes_induct (λ q b. PartReached room q) (grind (arith, open_keeps)) _ (tt, tt) _ _ are h in
    let end = token_ends _ ten _ _ r.1 in (
      end.0 ++ Done false ∷ [],
      N.ResponseMeaning.response_is_spelt _ _ (grind (arith, AreBytes-append, AreBytes-ints, AreBytes-zero_chunks, AreBytes-cells, AreBytes-replicate))
          (N.TokenLaws.is_final-snoc end.0 (Done false))
          (spelt_both h (spelt_both end.1 (spelt_both {t = part_at end.0 (N.Fields N.ADone)} {a = N.done_byte ∷ []} (grind (arith, spelt_one))
          (grind (arith, spelt_one))))),
    )
