-- Runs over cells by their formats, a cell after those that were written.
use Rattle.tds_cells.proofs as N
use N.{Bool, CellFormat, Charset, Column, List, [], ap, arith, drop, false, length, map, refl, suc, take, ℕ, ◌&&◌, ◌++◌, ◌+◌, ◌-◌, ◌<◌, ◌==◌, ◌∙◌, ◌∷◌, ◌≡◌}
use N.{◌≤◌}
use N.RunSteps.{made_more, made_same, unused, used_more, whole_some}

pub some_first : (formats : List CellFormat) → 0 < length formats → (format : CellFormat) × (rest : List CellFormat) × (formats ≡ format ∷ rest)
some_first [] some = grind arith
some_first (f ∷ fs) _ = (f, fs, refl)

-- the formats are those of the next columns, which are the row's last if the formats end it
module _ (charset : Charset) (formats : List CellFormat) (column : ℕ) (ends : Bool) (columns : List Column)
    (kinds_are : map (λ f. f.kind) formats ≡ map (λ c. c.kind) (take (length formats) (drop column columns)))
    (ends_are : ends ≡ (length formats == length (drop column columns))) where
  -- whether so many cells end their row
  abbrev closes : ℕ → Bool
  closes n = ends && (n == length formats)

  few : length formats ≤ length (drop column columns)
  few = grind (arith, N.length-map, N.length-take)

  -- the cell after so many is that of the next column
  next_cell : (k : ℕ) (d : CellFormat) {bytes text : List ℕ} → k < length formats
      → N.WritesKind charset (N.get_or formats k d).kind (column + k) (closes (suc k)) bytes text
      → N.WritesColumn charset columns (λ k. false) (column + k) bytes text
  next_cell k d within x =
      let c : Column = record { kind = d.kind; name = [] } in
      let next = drop column columns in
      let some : k < length next = omega (arith, few) in
      let step = N.drop_more next k c some in
      let kind_is = N.RowFormatSteps.known_kind formats next _ k d c (ap (map _) (N.take_all _ formats (omega arith)) ∙ kinds_are) within (omega arith) some in
      let last = N.RowFormatSteps.last_one next _ _ k _ refl step in
      let end : closes (suc k) ≡ N.is_last_column (drop (k + 1) next) = grind (arith, N.nat_tests, few) in
      grind (arith, N.drop-drop)

  -- the fields of some cells are the text of a run over them
  pub run_marked : (n : ℕ) (bytes text : List ℕ) → 0 < length formats → n ≤ length formats → N.WritesFormats charset formats column n bytes text
      → N.WritesMarked charset columns (λ k. false) column n bytes (text ++ N.end_after (closes n))
  run_marked N.zero bytes text some few x = grind arith
  run_marked (suc n) bytes text some few x =
      let d = (some_first formats some).0 in
      let last = closes (suc n) in
      let going : closes n ≡ false = grind arith in (
        x.0,
        x.1,
        x.2,
        N.in_line _ last x.3,
        x.4,
        rw (x.5) (N.append_assoc x.2 _ _),
        rw (going, N.append-nil) at (run_marked n x.0 x.2 some (omega arith) x.6),
        next_cell n d (omega arith) (x.7 d _ last),
      )

-- what is written from `at` on
pub beyond_kept : (at m : ℕ) (to x rest : List ℕ) → at ≤ length to → m ≤ length x → take m (drop at (take at to ++ (x ++ rest))) ≡ take m x
beyond_kept = grind (arith, N.drop-append-le, N.take-append-le, N.length-take-le, N.drop_all)

-- what is written after some text, and a comma after it
pub comma_put : (made m : ℕ) (to text rest : List ℕ) → made ≤ length to → m < length text
    → take (made + m + 1) (N.slice_set (take made to ++ (text ++ rest)) (made + m) 44) ≡ take made to ++ (take m text ++ 44 ∷ [])
comma_put = grind (arith, N.take_more_set, made_more, N.append_assoc, N.length-append, N.length-take-le)

-- A text stands from one place up to another, and before it what stood there.
pub record StandsFrom (at end : ℕ) (old new text : List ℕ) : Type 0 where
  pub later : at ≤ end
  pub kept : take at new ≡ take at old
  pub text_is : take (end - at) (drop at new) ≡ text

-- so does what was written further on, after what stood before it
pub stands : (at made end : ℕ) (old new text : List ℕ) → at ≤ made → made ≤ length old → end ≤ length new → take end new ≡ take made old ++ text
    → StandsFrom at end old new (take (made - at) (drop at old) ++ text)
stands at made end old new text begun within fits is =
    let size = N.length-take-le made old within in
    let later : made ≤ end = omega (arith, ap length is, N.length-take-le end new fits, N.length-append (take made old) text) in
    let upto : at + (end - at) ≡ end = omega arith in
    let rest : at + (made - at) ≡ made = omega arith in
    let front : take at new ≡ take at (take end new) = grind (arith, N.take-take) in
    let back : take (end - at) (drop at new) ≡ drop at (take end new) = grind (arith, N.drop-take) in
    grind (arith, N.take-append-le, N.take-take, N.drop-take, N.drop-append-le)

-- what stands before `at`, where more than that is kept
pub front_kept : (at k : ℕ) (old x new : List ℕ) → at ≤ length old → take (at + k) new ≡ take (at + k) (take at old ++ x) → take at new ≡ take at old
front_kept at k old x new within kept =
    let front : take at new ≡ take at (take (at + k) new) = grind (arith, N.take-take) in
    let back : take at (take at old ++ x) ≡ take at (take (at + k) (take at old ++ x)) = grind (arith, N.take-take) in
    grind (arith, made_same)

-- a comma, a field and the end of a line that stand from `at` on
pub line_beyond : (at k m end : ℕ) (old comma rest text new e : List ℕ) → (at ≤ length old) × (k ≤ length comma) × (end ≤ length new)
    → take (at + k) text ≡ take (at + k) (take at old ++ (comma ++ rest)) → take end new ≡ take ((at + k) + m) text ++ e
    → StandsFrom at end old new ((take k comma ++ take m (drop (at + k) text)) ++ e)
line_beyond at k m end old comma rest text new e (within, few, ends) kept is =
    let from = stands at at end old new ((take k comma ++ take m (drop (at + k) text)) ++ e) (omega arith) within ends
    (grind (arith, N.take-add, N.append_assoc, made_more)) in
    grind arith

-- what is left after `used` bytes is left of those from `from` on
pub unused_from : (from used : ℕ) (bytes : List ℕ) → from ≤ used → unused used bytes ≡ unused (used - from) (drop from bytes)
unused_from = grind (arith, N.all_after, N.drop-drop)

-- what is left of the bytes, after some more of them
pub left_after : (bytes rest : List ℕ) (u : ℕ) → length rest ≤ length bytes → rest ≡ drop (length bytes - length rest) bytes → u ≤ length rest
    → (length bytes - length (unused u rest) ≡ (length bytes - length rest) + u)
    × (unused u rest ≡ drop ((length bytes - length rest) + u) bytes)
left_after = grind (arith, N.all_after, N.drop-drop, N.length-drop)

-- ---- a run so far

-- before its first cell it made no more than a comma
pub comma_alone : {charset : Charset} {formats : List CellFormat} {column : ℕ} {bytes to : List ℕ} {run : N.FormatsRun}
    → N.WritesFields charset formats column bytes to run → run.cells ≡ 0 → run.made ≤ 1
comma_alone {column = column} {to = to} {run = run} x none =
    let size = N.length-take-le run.made to x.within.made in
    let one : length (N.after_comma (column + run.cells) []) ≤ 1 = grind arith in
    let nothing : length x.fields ≡ 0 = grind arith in
    omega (arith, ap length x.text_is, N.length-append x.fields (N.after_comma (column + run.cells) []))

module _ {charset : Charset} {formats : List CellFormat} {column : ℕ} {bytes : List ℕ} {run : N.FormatsRun} where
  -- one cell more, and the comma after it
  pub fields_more : {to : List ℕ} {after : N.FormatsRun} (u m : ℕ) (d : CellFormat) (text new : List ℕ) → N.WritesFields charset formats column bytes to run
      → run.cells < length formats → u ≤ length bytes - run.used → after.made < length new
      → after.cells ≡ run.cells + 1 → after.used ≡ run.used + u → after.made ≡ run.made + m + 1
      → take after.made new ≡ take run.made to ++ (take m text ++ 44 ∷ [])
      → u ≡ N.whole_size (N.get_or formats run.cells d).kind (unused run.used bytes)
      → N.WritesField charset (N.get_or formats run.cells d).kind (take u (unused run.used bytes)) (take m text)
      → N.WritesFields charset formats column bytes new after
  fields_more {after = after} u m d text new x few within fits cells used made is whole wrote =
      let k = run.cells in
      let one : N.WritesFormats charset formats column (suc k) (take (run.used + u) bytes) (x.fields ++ N.after_comma (column + k) (take m text)) = (
        take run.used bytes,
        take u _,
        x.fields,
        take m text,
        used_more run.used u bytes,
        refl,
        x.writes,
        λ format. rw (N.get_or_default formats k d format few) at wrote,
      ) in
      let next : after.cells ≡ suc k = omega arith in
      record {
        within = grind (arith, whole_some);
        room = omega arith;
        fields = x.fields ++ N.after_comma (column + k) (take m text);
        writes = rw (next, used) one;
        text_is = grind (arith, N.append_assoc, N.RowTexts.after_append, N.RowTexts.after_some_column);
      }

  -- what stands after what was made may be another
  pub fields_kept : (at made : ℕ) (old new : List ℕ) → length new ≡ length old → at + run.made ≡ made → take made new ≡ take made old
      → N.WritesFields charset formats column bytes (drop at old) run → N.WritesFields charset formats column bytes (drop at new) run
  fields_kept at made old new size upto same x =
      let kept : take run.made (drop at new) ≡ take run.made (drop at old) =
      rw (← N.drop-take at run.made new, ← N.drop-take at run.made old, upto, same) in
      grind (arith, N.length-drop)

  -- the run is over once the end of the line, or nothing, stands over the last comma
  pub fields_run : {ends : Bool} {text : List ℕ} (room made before : ℕ) (new : List ℕ) → 0 < run.cells → run.made ≡ before + 1
      → N.WritesFields charset formats column bytes text run → made ≤ room
      → take made new ≡ take before text ++ N.end_after (ends && (run.cells == length formats))
      → N.RunsFormats charset formats column ends bytes room new (record run { made = made })
  fields_run {text = text} room made before new some more x fits is =
      let comma : take run.made text ≡ x.fields ++ 44 ∷ [] = grind (arith, N.RowTexts.after_some_column) in
      let counted : before ≡ length x.fields = omega (
        arith,
        ap length comma,
        N.length-take-le run.made text x.within.made,
        N.length-append x.fields
            (44 ∷ []),
      ) in
      let body : take before text ≡ x.fields = rw (← N.take-take before run.made text (omega arith), comma) (grind (arith, N.take-append-le, N.take_all)) in
      grind (arith, run_marked)

shape_less : (s : N.Shape) (bytes : List ℕ) {fewer room : ℕ} → fewer ≤ room → N.IsLongLeft s bytes room → N.IsLongLeft s bytes fewer
shape_less (N.LongShape c N.Short) _ less left = grind arith
shape_less (N.LongShape c N.Chunked) _ less left = (left.0, grind arith)
shape_less N.CountedShape _ less left = left
shape_less (N.FixedShape n) _ less left = left

pub left_less : (charset : Charset) (kind : N.Kind) (bytes : List ℕ) {fewer room : ℕ} → fewer ≤ room → N.IsLeft charset kind bytes room
    → N.IsLeft charset kind bytes fewer
left_less _ _ _ less left = grind (arith, shape_less)

-- the first cell is left with less room, too
pub first_less : (charset : Charset) (formats : List CellFormat) (bytes : List ℕ) {fewer room : ℕ} → fewer ≤ room → N.FirstLeft charset formats bytes room
    → N.FirstLeft charset formats bytes fewer
first_less _ _ _ less x format rest are = let y = x format rest are in grind (arith, left_less)
