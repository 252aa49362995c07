-- What the bytes that lead to a part of a cell spell.
use Rattle.tds_cells.proofs as N
use N.{AreBytes, Chunked, Kind, List, LongShape, Ok, Option, Shape, Short, [], append_assoc, arith, cell_add, length, little, true, ℕ, ◌%◌, ◌&&◌, ◌++◌, ◌+◌}
use N.{◌-◌, ◌/◌, ◌<◌, ◌==◌, ◌^◌, ◌||◌, ◌∷◌, ◌≡◌}

-- a test that gave no fault passed
pub unless_none : (b : N.Bool) (f : N.Fault) → N.unless b f ≡ N.None → b ≡ true
unless_none = grind arith

eight_below : (e : List ℕ) → length e ≡ 8 → AreBytes e → little e < 2 ^ 64
eight_below = grind (arith, N.common_steps)

pub eight_ones : (e : List ℕ) → length e ≡ 8 → AreBytes e → little e ≡ 2 ^ 64 - 1 → e ≡ N.replicate 8 255
eight_ones (a ∷ b ∷ c ∷ d ∷ e ∷ f ∷ g ∷ h ∷ []) l k n = grind arith
eight_ones e l k n = cc

-- chunks so far, without the terminator
abbrev pub BeginsChunks : List (List ℕ) → List ℕ → Type 0
BeginsChunks [] bytes = bytes ≡ []
BeginsChunks (d ∷ ds) bytes = (front : List ℕ) × (rest : List ℕ) × (bytes ≡ front ++ rest) × N.SpellsChunk d front × BeginsChunks ds rest

pub more_chunks : (ds : List (List ℕ)) (bytes d front : List ℕ) → BeginsChunks ds bytes → N.SpellsChunk d front
    → BeginsChunks (ds ++ d ∷ []) (bytes ++ front)
more_chunks [] bytes d front h s = search N.rules
more_chunks (x ∷ ds) _ d front h s = grind (arith, append_assoc, (more_chunks ds h.1 d front h.4 s))

pub end_chunks : (ds : List (List ℕ)) (bytes : List ℕ) → BeginsChunks ds bytes → N.SpellsChunks ds (bytes ++ 0 ∷ 0 ∷ 0 ∷ 0 ∷ [])
end_chunks [] bytes h = cc
end_chunks (x ∷ ds) _ h = grind (arith, append_assoc, (end_chunks ds h.1 h.4))

pub record ChunksMean (total : Option ℕ) (content bytes : List ℕ) : Type 0 where
  pub first : List ℕ
  pub chunks : List (List ℕ)
  pub rest : List ℕ
  pub spelt : bytes ≡ first ++ rest
  pub eight : length first ≡ 8
  pub total_is : total ≡ N.known_total (little first)
  pub below : little first < 2 ^ 64 - 1
  pub begun : BeginsChunks chunks rest
  pub all : N.concat chunks ≡ content

pub record ChunkMeans (total : Option ℕ) (left : ℕ) (content bytes : List ℕ) : Type 0 where
  pub before : List ℕ
  pub whole : List ℕ
  pub chunks : ChunksMean total before whole
  pub header : List ℕ
  pub part : List ℕ
  pub spelt : bytes ≡ whole ++ (header ++ part)
  pub four : length header ≡ 4
  pub counted : little header ≡ length part + (left + 1)
  pub all : content ≡ before ++ part

-- what the bytes that lead to a part of a cell of this kind and shape spell
abbrev pub CellMeans : Kind → Shape → N.CellPart → List ℕ → Type 0
CellMeans kind sh (N.WholeCell x) b = N.SpellsCell kind sh x b
CellMeans kind (N.FixedShape n) (N.ScalarBytes k m) b = (k ≡ kind) × (m ≡ n) × (b ≡ [])
CellMeans kind N.CountedShape (N.ScalarLength k) b = (k ≡ kind) × (b ≡ [])
CellMeans kind N.CountedShape (N.ScalarBytes k m) b = (k ≡ kind) × (b ≡ m ∷ []) × (0 < m) × (N.is_length_allowed kind m ≡ true)
CellMeans kind (LongShape c Short) (N.ShortLength c') b = (c' ≡ c) × (b ≡ [])
CellMeans kind (LongShape c Short) (N.ShortData c' left d) b = (c' ≡ c) × (n : ℕ) × (n ≡ length d + (left + 1)) × (n < 65535)
    × (b ≡ (n % 256 ∷ n / 256 ∷ []) ++ d)
CellMeans kind (LongShape c Chunked) (N.Total c') b = (c' ≡ c) × (b ≡ [])
CellMeans kind (LongShape c Chunked) (N.ChunkLength c' total d) b = (c' ≡ c) × ChunksMean total d b
CellMeans kind (LongShape c Chunked) (N.ChunkData c' total left d) b = (c' ≡ c) × ChunkMeans total left d b
CellMeans kind sh part b = ⊥

pub is_ok_value : {r : N.Result N.ScalarValue N.ValueFault} → N.is_ok r ≡ true → (v : N.ScalarValue) × (r ≡ Ok v)
is_ok_value = grind arith

module _ (column : ℕ) (kind : Kind) where
  value_means : (sh : Shape) (e b : List ℕ) → N.is_ok (N.read_of kind e) ≡ true
      → ((v : N.ScalarValue) → N.read_of kind e ≡ Ok v → N.SpellsCell kind sh (N.ScalarCell v) b) → CellMeans kind sh (N.value_part (N.read_of kind e)) b
  value_means = grind arith

  short_means : (c : N.Conversion) {n : ℕ} (left : ℕ) {d b : List ℕ} (x : ℕ) → n ≡ length d + (left + 1) → n < 65535
      → b ≡ (n % 256 ∷ n / 256 ∷ []) ++ d → (N.is_begun c (d ++ x ∷ []) && (N.nat_lt 0 left || N.is_fit c (d ++ x ∷ []))) ≡ true
      → CellMeans kind (LongShape c Short) (cell_add (N.ShortData c left d) (x ∷ [])) (b ++ x ∷ [])
  short_means = grind (arith, N.length-append)

  chunk_means : (c : N.Conversion) (total : Option ℕ) (d b e : List ℕ) → length e ≡ 4 → ChunksMean total d b
      → N.cell_fault column (N.ChunkLength c total d) e ≡ N.None → CellMeans kind (LongShape c Chunked) (cell_add (N.ChunkLength c total d) e) (b ++ e)
  chunk_means c total d b e four m free =
      N.choose (λ p. CellMeans kind (LongShape c Chunked) p (b ++ e)) (little e == 0) _ _ (λ z.
      let e0 : e ≡ 0 ∷ 0 ∷ 0 ∷ 0 ∷ [] = grind (arith, N.common_steps) in (grind (arith, unless_none, append_assoc, end_chunks)))
      (λ z.
      let some = N.eq_false _ 0 z in (
        N.refl,
        record { before = d; whole = b; chunks = m; header = e; part = []; spelt = search N.rules; four = four; counted = omega arith; all = search N.rules },
      ))

  data_means : (c : N.Conversion) (total : Option ℕ) (left : ℕ) (d b : List ℕ) (x : ℕ) → ChunkMeans total left d b
      → CellMeans kind (LongShape c Chunked) (cell_add (N.ChunkData c total left d) (x ∷ [])) (b ++ x ∷ [])
  data_means c _ left d b x m =
      let la = N.length-append m.part (x ∷ []) in
      let spelt : b ++ x ∷ [] ≡ m.whole ++ (m.header ++ (m.part ++ x ∷ [])) = rw (m.spelt, append_assoc, append_assoc) in
      let all : d ++ x ∷ [] ≡ m.before ++ (m.part ++ x ∷ []) = rw (m.all, append_assoc) in
      N.choose (λ p. CellMeans kind (LongShape c Chunked) p (b ++ x ∷ [])) _ _ _ (λ z.
      let one : N.SpellsChunk (m.part ++ x ∷ []) (m.header ++ (m.part ++ x ∷ [])) = grind arith in (
        N.refl,
        record {
          first = m.chunks.first;
          chunks = m.chunks.chunks ++ (m.part ++ x ∷ []) ∷ [];
          rest = m.chunks.rest ++ (m.header ++ (m.part ++ x ∷ []));
          spelt = grind (arith, append_assoc);
          eight = cc;
          total_is = cc;
          below = omega arith;
          begun = more_chunks _ _ _ _ m.chunks.begun one;
          all = grind (arith, N.concat-append, append_assoc, N.append-nil);
        },
      )) (λ z. let some = N.eq_false left 0 z in (grind arith))

  short_length_means : (c : N.Conversion) (e : List ℕ) → length e ≡ 2 → AreBytes e → CellMeans kind (LongShape c Short) (cell_add (N.ShortLength c) e) e
  short_length_means = grind (arith, N.no_data_is_fit, N.two_bytes)

  total_means : (c : N.Conversion) (e : List ℕ) → length e ≡ 8 → AreBytes e → CellMeans kind (LongShape c Chunked) (cell_add (N.Total c) e) e
  total_means = grind (arith, N.append-nil, eight_below, eight_ones)

  pub cell_step : (sh : Shape) (p : N.CellPart) (b e : List ℕ) → AreBytes e → CellMeans kind sh p b → N.IsNext (N.cell column) p e
      → CellMeans kind sh (cell_add p e) (b ++ e)
  cell_step _ p b e bytes h n = grind (arith, N.one_byte, chunk_means, data_means, short_length_means, short_means, total_means, unless_none, value_means)

pub start_means : (kind : Kind) (sh : Shape) → CellMeans kind sh (N.cell_start kind sh) []
start_means = grind arith

pub cell_is_spelt : {x : N.Cell} {bytes : List ℕ} {column : ℕ} (kind : Kind) (sh : Shape) → AreBytes bytes
    → N.Spelt (N.cell column) (N.cell_start kind sh) bytes (N.WholeCell x) → N.SpellsCell kind sh x bytes
cell_is_spelt kind sh are h = N.Spelt-induct _ (λ p b. AreBytes b
    → CellMeans kind sh p b) (grind (arith, cell_step, N.AreBytes-back, N.AreBytes-front)) _ (λ _. start_means _ _)
    _ _ h are
