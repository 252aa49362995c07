-- Runs over rows that are far from the ends, a cell after the comma that stands before it.
use Rattle.tds_cells.proofs as N
use N.{List, [], arith, drop, length, place, take, ℕ, ◌++◌, ◌+◌, ◌-◌, ◌<◌, ◌==◌, ◌∙◌, ◌≡◌, ◌≤◌}
use N.FormatSteps.{left_after}
use N.RunSteps.{unused, whole_some}
use N.RowFormatRuns.{known_begin, known_begun, known_ran, place_known, ran_at, rows_more, runs_column}

-- how many bytes the comma before a column's field has
abbrev pub comma_size : ℕ → ℕ
comma_size column = length (N.after_comma column [])

-- a row has as many formats as there are columns
pub row_length : {row : List N.CellFormat} (row_format : N.RowFormat) → row_format.known ≡ row_format.count → row
    ≡ take row_format.known row_format.formats.now → length row ≡ row_format.count
row_length = grind (arith, N.length-take-le)

-- ---- a run that keeps what is left of the bytes

-- A run over such rows so far: it took all bytes but the rest, and is in a row after so many cells and the comma of the next one.
pub record FarAt (row_format : N.RowFormat) (column : ℕ) (bytes to rest : List ℕ) (cells made rows : ℕ) : Type 0 where
  pub within : length rest ≤ length bytes
  pub rest_is : rest ≡ drop (length bytes - length rest) bytes
  pub some : cells < row_format.count
  pub begun : comma_size cells ≤ made
  pub comma : take made to ≡ take (made - comma_size cells) to ++ N.after_comma cells []
  pub ran : N.KnownRan row_format column bytes to
      (record { used = length bytes - length rest; made = made - comma_size cells; rows = rows; column = cells })

-- it begins with the comma of its first cell
pub far_begin : {row_format : N.RowFormat} {bytes to : List ℕ} (made n : ℕ) → n < row_format.count → made ≤ length to → take made to ++ [] ≡ N.after_comma n []
    → FarAt row_format n bytes to bytes n made 0
far_begin {bytes = bytes} {to = to} made n some within is =
    let made_is : made ≡ comma_size n = grind (arith, N.append-nil, N.length-take-le) in
    let none : made - comma_size n ≡ 0 = omega arith in
    let nothing : length bytes - length bytes ≡ 0 = omega arith in
    record { within = omega arith; rest_is = grind arith; some = some; begun = omega arith; comma = grind arith; ran = rw (none, nothing) known_begin }

-- The next cell of such a row is of this format.
pub record NextIs (row_format : N.RowFormat) (row : List N.CellFormat) (cells : ℕ) (format : N.CellFormat) : Type 0 where
  pub all : row_format.known ≡ row_format.count
  pub row_is : row ≡ take row_format.known row_format.formats.now
  pub is : format ≡ N.get_or row cells format

module _ {row_format : N.RowFormat} {column : ℕ} {bytes old rest : List ℕ} {cells made rows : ℕ} {row : List N.CellFormat} {format : N.CellFormat}
    (at : FarAt row_format column bytes old rest cells made rows) (next : NextIs row_format row cells format) where
  next_column : (walk : N.Walk) (columns : List N.Column) → N.Knows row_format columns → N.IsCursor row_format columns (place walk cells)
      → N.NextColumn columns (place walk cells) format.kind
  next_column = grind (arith, N.RowFormatSteps.next_known, N.get_or-take)

  -- it is left
  pub far_left : {room more : ℕ} → room ≤ more → N.IsLeft row_format.charset format.kind rest more → (walk : N.Walk)
      → N.EndsLeft row_format (λ k. N.false) (place walk cells) (drop (length bytes - length rest) bytes) room
  far_left less left walk columns column after knows ahead step =
      let next = next_column walk columns knows ahead in
      grind (arith, N.FormatSteps.left_less)

  module _ (u m : ℕ) (new : List ℕ) (kept : take made new ≡ take made old) (there : (u ≡ N.whole_size format.kind rest) × (u ≤ length rest))
      (wrote : N.WritesField row_format.charset format.kind (take u rest) (take m (drop made new))) where
    -- it was written, and what comes after its field
    far_cell : (end : ℕ) (final : List ℕ) → end ≤ length final → take end final ≡ take (made + m) new ++ N.end_after (cells + 1 == row_format.count)
        → N.KnownRan row_format column bytes final
        (record { used = length bytes - length (unused u rest); made = end; rows = rows; column = cells + 1 })
    far_cell end final fits is =
        let used = length bytes - length rest in
        let left : unused used bytes ≡ rest = N.all_after bytes used ∙ N.sym at.rest_is in
        let text : take end final ≡ take (made - comma_size cells) old
        ++ (N.after_comma cells (take m (drop made new)) ++ N.end_after (cells + 1 == row_format.count)) =
        grind (arith, at.comma, N.take-add, N.append_assoc, N.RowTexts.after_append) in
        rw ((left_after bytes rest u at.within at.rest_is there.1).0) (known_ran (λ walk.
        rows_more u end _ final (omega (arith, there.0, whole_some format.kind rest)) (rw left there.1) fits text (λ columns knows ahead.
        let after = place_known row_format (place walk cells) cells (cells + 1) next.all (omega (arith, at.some)) columns knows ahead in
        let taken = N.RowFormatSteps.takes (next_column walk columns knows ahead) N.refl after in
        let last = N.RowFormatSteps.last_one columns (drop (cells + 1) columns) taken.column cells row_format.count knows.counted taken.next in
        rw left (runs_column taken last N.refl (wrote cells _).whole)) (ran_at at.ran walk)))

    -- and the comma of the next one
    pub far_comma : cells + 1 < length row → made + m < length new
        → FarAt row_format column bytes (N.slice_set new (made + m) 44) (unused u rest) (cells + 1) (made + m + 1) rows
    far_comma few room =
        let all = row_length row_format next.all next.row_is in
        let end = made + m in
        let left = left_after bytes rest u at.within at.rest_is there.1 in
        let one : comma_size (cells + 1) ≡ 1 = grind (arith, N.nat_tests) in
        let there : (end + 1) - comma_size (cells + 1) ≡ end = omega arith in
        let same = N.take-set-le end new end 44 (omega arith) in
        record {
          within = grind (arith, N.length-take, N.length-drop);
          rest_is = grind arith;
          some = omega arith;
          begun = omega arith;
          comma = grind (arith, N.take_more_set);
          ran = grind (arith, far_cell, N.length-set, N.append-nil);
        }

    -- or the end of the line in place of that comma
    pub far_line : {end : ℕ} {final : List ℕ} → length row ≤ cells + 1 → end ≤ length final
        → take end final ≡ take ((made + m + 1) - 1) (N.slice_set new (made + m) 44) ++ N.end_after N.true
        → N.KnownRan row_format column bytes final (record { used = length bytes - length (unused u rest); made = end; rows = rows; column = cells + 1 })
    far_line {end} {final} last fits is =
        let all = row_length row_format next.all next.row_is in
        let whole : cells + 1 ≡ row_format.count = omega arith in
        let before : (made + m + 1) - 1 ≡ made + m = omega arith in
        far_cell end final fits (rw (N.eq-eqb _ _ whole, ← N.take-set-le (made + m) new (made + m) 44 (omega arith)) (rw before at is))

    -- and then the token byte of the next row
    pub far_row : {end : ℕ} {final : List ℕ} → length row ≤ cells + 1 → 0 < row_format.count → end ≤ length final
        → take end final ≡ take ((made + m + 1) - 1) (N.slice_set new (made + m) 44) ++ N.end_after N.true → N.BeginsRow (unused u rest)
        → FarAt row_format column bytes final (unused 1 (unused u rest)) 0 end (rows + 1)
    far_row {end} last some fits is begins =
        let left = left_after bytes rest u at.within at.rest_is there.1 in
        let after = left_after bytes (unused u rest) 1 (grind (arith, N.length-take, N.length-drop)) (grind arith) (grind arith) in
        let none : end - comma_size 0 ≡ end = omega arith in
        record {
          within = grind (arith, N.length-take, N.length-drop);
          rest_is = grind arith;
          some = some;
          begun = omega arith;
          comma = grind (arith, N.append-nil);
          ran = rw (none, after.0) (known_begun next.all some (omega (arith, last, row_length row_format next.all next.row_is))
              (rw (N.all_after, left.0, ← left.1) begins) (far_line last fits is));
        }
