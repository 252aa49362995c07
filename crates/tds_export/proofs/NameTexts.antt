-- The names of columns, put one after another.
use Rattle.tds_export.proofs as N
use N.{Column, List, Ok, Option, PutsPiece, Sink, Stop, [], arith, joined, length, map, name_field, take, ℕ, ◌+◌, ◌++◌, ◌<◌, ◌≤◌, ◌==◌, ◌∙◌, ◌∷◌, ◌≡◌}
use Rattle.tds_text.specs.Quoting.{in_line}
use Rattle.tds_cells.proofs.RunSteps.{made_more}

-- one piece was put, and another after it
pub then_puts : {W U V : Type 0} {contents : W → Option (List ℕ)} {a b c : Sink W} {u : U} {p q : List ℕ} {r : N.Result V Stop}
    → PutsPiece contents a b p (Ok u) → PutsPiece contents b c q r → PutsPiece contents a c (p ++ q) r
then_puts x y = N.PutsPiece-trans _ _ _ _ _ _ _ _ x y

-- where `?` passes on that the writer failed, more would have been put
pub passed_piece : {W U V : Type 0} {contents : W → Option (List ℕ)} {a b : Sink W} {p : List ℕ} {e : Stop} {r : N.Result V Stop} (more : List ℕ)
    → N.IsErrAnd r (λ stop. stop ≡ e) → PutsPiece {U = U} contents a b p (N.Err e) → PutsPiece contents a b (p ++ more) r
passed_piece = grind (arith, N.common_steps)

-- the text of these names, after which those are left: the line ends after the last
abbrev pub names_text : (done left : List Column) → List ℕ
names_text done [] = N.header_line done
names_text done (c ∷ cs) = joined (map name_field done)

-- The columns but these last ones were named.
pub record Named (columns left : List Column) (index : ℕ) : Type 0 where
  pub done : List Column
  pub split : done ++ left ≡ columns
  pub index_is : index ≡ length done

-- one more name is put after others
one_more : {columns left rest : List Column} {c : Column} {index count : ℕ} → left ≡ c ∷ rest → (x : Named columns left index) → count ≡ length columns
    → (y : Named columns rest (index + 1)) × (names_text x.done left ++ in_line index (index + 1 == count) (name_field c) ≡ names_text y.done rest)
one_more {c} is x number = let joins = N.joined_snoc (map name_field x.done) (name_field c) in (
  record { done = x.done ++ c ∷ []; split = grind (arith, N.append_assoc); index_is = grind (arith, N.length-append) },
  grind (arith, N.length-map, N.length-append, N.map-append, N.append_assoc, joined),
)

-- the header line begins with them
begins : (done left : List Column) → (more : List ℕ) × (names_text done left ++ more ≡ N.header_line (done ++ left))
begins done [] = grind (arith, N.append-nil)
begins done (c ∷ cs) =
    let grows = N.joined_more (map name_field done) (map name_field (c ∷ cs)) in
    (grows.0 ++ N.line_end, grind (arith, N.map-append, grows, N.append_assoc))

-- The names of the columns but these last ones were put.
pub record NamesPut {W : Type 0} (contents : W → Option (List ℕ)) (columns left : List Column) (index : ℕ) (before after : Sink W) : Type 0 where
  pub names : Named columns left index
  pub puts : PutsPiece contents before after (names_text names.done left) (Ok (tt {0}))

pub names_none : {W : Type 0} {contents : W → Option (List ℕ)} {columns left : List Column} {sink : Sink W} → left ≡ columns → 0 < length columns
    → N.IsWriting sink → NamesPut contents columns left 0 sink sink
names_none {left} e some going = let none : names_text [] left ≡ [] = grind arith in
    record { names = grind arith; puts = rw none (N.PutsPiece-none _ _ _ going) }

module _ {W : Type 0} {contents : W → Option (List ℕ)} {columns left rest : List Column} {c : Column} {index count : ℕ} {a b d : Sink W}
    (is : left ≡ c ∷ rest) (x : NamesPut contents columns left index a b) (number : count ≡ length columns) where
  -- one more name was put
  pub names_more : PutsPiece contents b d (in_line index (index + 1 == count) (name_field c)) (Ok (tt {0})) → NamesPut contents columns rest (index + 1) a d
  names_more name = let m = one_more is x.names number in record { names = m.0; puts = rw (← m.1) (then_puts x.puts name) }

  -- the writer failed at the name
  pub name_breaks : {stop : Stop} {r : N.Result (Unit {0}) Stop}
      → PutsPiece {U = Unit {0}} contents b d (in_line index (index + 1 == count) (name_field c)) (N.Err stop) → N.IsErrAnd r (λ s. s ≡ stop)
      → PutsPiece contents a d (N.header_line columns) r
  name_breaks broke is_passed =
      let m = one_more is x.names number in
      let more = begins m.0.done rest in
      rw (← m.0.split, ← more.1, ← m.1) (passed_piece more.0 is_passed (then_puts x.puts broke))

-- ---- the line between two sets and then the names, written to a slice

-- The names of the columns but these last ones were written to the front of a slice, after the line between two sets.
pub record NamesWritten (begun : N.Bool) (columns left : List Column) (index made : ℕ) (room to : List ℕ) : Type 0 where
  pub names : Named columns left index
  pub same : length to ≡ length room
  pub within : made ≤ length to
  pub text : take made to ≡ N.between begun ++ names_text names.done left

-- one more name was written after what was made
pub name_written : {begun : N.Bool} {columns left rest : List Column} {c : Column} {index made m count : ℕ} {room to : List ℕ} (new more : List ℕ)
    → left ≡ c ∷ rest → NamesWritten begun columns left index made room to → count ≡ length columns → m ≤ length new
    → length (take made to ++ (new ++ more)) ≡ length to → take m new ≡ in_line index (index + 1 == count) (name_field c)
    → NamesWritten begun columns rest (index + 1) (made + m) room (take made to ++ (new ++ more))
name_written new more is x number within same text =
    let names = one_more is x.names number in
    record { names = names.0; same = same ∙ x.same; within = grind (arith, N.length-append, N.length-take-le); text = grind (arith, made_more) }
