-- What a cell's spelling is read as.
use Rattle.tds_cells.proofs as N
use N.{Conversion, DataCell, Kind, List, Null, Ok, Spelt, Spelt-append, Spelt-step, WholeCell, [], ap, arith, cell, concat, is_fit, length, refl, true, ℕ, ◌%◌}
use N.{◌++◌, ◌+◌, ◌-◌, ◌/◌, ◌<◌, ◌==◌, ◌^◌, ◌||◌, ◌∙◌, ◌∷◌, ◌≡◌, ◌≤◌}

-- a fixed shape has bytes
abbrev pub HasBytes : N.Shape → Type 0
HasBytes (N.FixedShape n) = 0 < n
HasBytes s = Unit {0}

pub unless_true : {b : N.Bool} (f : N.Fault) → b ≡ true → N.unless b f ≡ N.None
unless_true f h = rw h

module _ (column : ℕ) where
  fixed_cell : {kind : Kind} {n : ℕ} (v : N.ScalarValue) {bytes : List ℕ} → 0 < n → length bytes ≡ n → N.read_of kind bytes ≡ Ok v
      → Spelt (cell column) (N.ScalarBytes kind n) bytes (WholeCell (N.ScalarCell v))
  fixed_cell v {bytes} some l h = Spelt-step _ _ bytes _ (omega arith) l (grind arith) (ap N.value_part h)

  counted_cell : {kind : Kind} {v : N.ScalarValue} {value : List ℕ} → 0 < length value → N.is_length_allowed kind (length value) ≡ true
      → N.read_of kind value ≡ Ok v → Spelt (cell column) (N.ScalarLength kind) (length value ∷ value) (WholeCell (N.ScalarCell v))
  counted_cell {v} {value} some allowed h =
      let head : Spelt _ _ (length value ∷ []) _ =
      Spelt-step _ _ _ _ (omega arith) refl (grind arith)
      (grind arith) in
      Spelt-append _ _ _ _ _ _ head (fixed_cell v some refl h)

  short_data : (c : Conversion) (d : List ℕ) (x : ℕ) (xs : List ℕ) → is_fit c (d ++ x ∷ xs) ≡ true
      → Spelt (cell column) (N.ShortData c (length xs) d) (x ∷ xs) (WholeCell (DataCell c (d ++ x ∷ xs)))
  short_data c d x [] h = Spelt-step _ _ _ _ (omega arith) refl
      (unless_true _ (N.and_from _ _ (N.fit_begins c _ [] (rw N.append-nil h)) h)) refl
  short_data c d x (y ∷ ys) h =
      let left = N.or_left _ _ (N.test_lt 0 (N.suc (length ys)) (omega arith)) in
      let k : is_fit c _ ≡ true = rw N.append_assoc h in
      let one = Spelt-step _ _ _ _ (omega arith) refl
      (unless_true _ (N.and_from _ _ (N.fit_begins c _ _ k) left)) (search N.rules) in
      Spelt-append _ _ _ _ _ _ one
      (rw N.append_assoc at (short_data c (d ++ x ∷ []) y ys k))

  short_length : (c : Conversion) (n : ℕ) → n < 65535 → n % N.unit c ≡ 0 → 0 < n
      → Spelt (cell column) (N.ShortLength c) (n % 256 ∷ n / 256 ∷ []) (N.ShortData c (n - 1) [])
  short_length = grind (arith, Spelt-step)

  short_cell : (c : Conversion) (d bytes : List ℕ) → is_fit c d ≡ true → length d < 65535 → bytes ≡ (length d % 256 ∷ length d / 256 ∷ []) ++ d
      → Spelt (cell column) (N.ShortLength c) bytes (WholeCell (DataCell c d))
  short_cell c [] bytes h least counted = rw counted (Spelt-step _ _ _ _ (omega arith) refl (grind arith) refl)
  short_cell c (x ∷ xs) _ h least counted =
      let less : length (x ∷ xs) - 1 ≡ length xs = omega arith in
      rw counted (Spelt-append _ _ _ _ _ _ (rw less at (short_length c _ least (N.fit_units c _ h) (omega arith))) (short_data c [] x xs h))

  chunk_data : (c : Conversion) (total : N.Option ℕ) (d : List ℕ) (x : ℕ) (xs more : List ℕ) → is_fit c ((d ++ x ∷ xs) ++ more) ≡ true
      → Spelt (cell column) (N.ChunkData c total (length xs) d) (x ∷ xs) (N.ChunkLength c total (d ++ x ∷ xs))
  chunk_data c _ d x [] more h = Spelt-step _ _ _ _ (omega arith) refl (unless_true _ (N.fit_begins c _ _ h)) refl
  chunk_data c total d x (y ∷ ys) more h =
      let begun = N.fit_begins c (d ++ x ∷ []) ((y ∷ ys) ++ more) (rw (← N.append_assoc, N.append_assoc d) h) in
      Spelt-append _ _ _ _ _ _ (Spelt-step _ _ _ _ (omega arith) refl (unless_true _ begun) (search N.rules))
      (rw N.append_assoc at (chunk_data c total (d ++ x ∷ []) y ys more (rw (N.append_assoc d) h)))

  chunk_cell : (c : Conversion) (total : N.Option ℕ) (d content bytes more : List ℕ) → is_fit c ((d ++ content) ++ more) ≡ true
      → N.within_total total (length d + length content) ≡ true → N.SpellsChunk content bytes
      → Spelt (cell column) (N.ChunkLength c total d) bytes (N.ChunkLength c total (d ++ content))
  chunk_cell c _ d [] bytes more f w s = grind arith
  chunk_cell c total d (x ∷ xs) _ _ f w s =
      let n = s.counted in
      let head : Spelt _ (N.ChunkLength c total d) s.header (N.ChunkData c total _ d) =
      Spelt-step _ _ _ _ (omega arith) s.four
      (grind arith) (rw n (search N.rules)) in
      rw (N.sym s.spelt) at (Spelt-append _ _ _ _ _ _ head (chunk_data c _ d x _ _ f))

  chunks_cell : (c : Conversion) (total : N.Option ℕ) (d : List ℕ) (ds : List (List ℕ)) (bytes : List ℕ)
      → ((n : ℕ) → n ≤ length (d ++ concat ds) → N.within_total total n ≡ true) → N.is_total total (length (d ++ concat ds)) ≡ true
      → is_fit c (d ++ concat ds) ≡ true → N.SpellsChunks ds bytes
      → Spelt (cell column) (N.ChunkLength c total d) bytes (WholeCell (DataCell c (d ++ concat ds)))
  chunks_cell c _ d [] bytes w t f s =
      let fit = rw N.append-nil at f in
      let end =
      N.choose_true _ _ _ (rw N.append-nil at t)
      ∙ N.choose_true _ _ _ (ap (λ n. n == 0) (N.fit_units c d fit)) ∙ unless_true _ fit in
      rw (s, N.append-nil) (Spelt-step _ _ _ _ (omega arith) refl end refl)
  chunks_cell c total d (x ∷ xs) _ w t f s =
      let a = N.append_assoc d x (concat xs) in
      let l : length (d ++ (x ++ concat xs)) ≡ length d + (length x + length (concat xs)) = rw N.length-append (rw N.length-append) in
      let one = chunk_cell c total d x s.0 (concat xs) (rw a f) (w _ (omega arith)) s.3 in
      let more = rw a at (chunks_cell c total (d ++ x) xs s.1 (rw a w) (rw a t) (rw a f) s.4) in
      rw s.2 (Spelt-append _ _ s.0 _ s.1 _ one more)

  chunked_cell : {c : Conversion} {d bytes : List ℕ} → is_fit c d ≡ true → N.SpellsChunked d bytes
      → Spelt (cell column) (N.Total c) bytes (WholeCell (DataCell c d))
  chunked_cell {c} {d} f s =
      let total = N.known_total (N.little s.total) in
      let even : (N.nat_le (2 ^ 64 - 2) (N.little s.total) || (N.little s.total % N.unit c == 0)) ≡ true = grind (arith, N.or_right) in
      let within : (n : ℕ) → n ≤ length d → N.within_total total n ≡ true = grind arith in
      let whole : N.is_total total (length d) ≡ true = grind arith in
      let more = rw s.all at (chunks_cell c total [] s.chunks s.rest (rw s.all within) (rw s.all whole) (rw s.all f) s.each) in
      let first = Spelt-step _ _ s.total _ (omega (arith, s.eight)) s.eight (unless_true _ even) (grind arith) in
      rw s.spelt (Spelt-append _ _ s.total _ s.rest _ first more)

  -- What spells a cell is read as that cell.
  pub cell_is_read : (kind : Kind) (sh : N.Shape) (x : N.Cell) (bytes : List ℕ) → HasBytes sh → N.SpellsCell kind sh x bytes
      → Spelt (cell column) (N.cell_start kind sh) bytes (WholeCell x)
  cell_is_read _ (N.FixedShape n) (N.ScalarCell v) _ some h = grind (arith, fixed_cell)
  cell_is_read _ N.CountedShape Null _ _ h = rw h (Spelt-step _ _ _ _ (omega arith) refl refl refl)
  cell_is_read _ N.CountedShape (N.ScalarCell v) _ _ h = grind (arith, counted_cell)
  cell_is_read _ (N.LongShape c N.Short) Null _ _ h = rw h (Spelt-step _ _ _ _ (omega arith) refl refl refl)
  cell_is_read _ (N.LongShape c N.Short) (DataCell c' d) _ _ h = grind (arith, short_cell)
  cell_is_read _ (N.LongShape c N.Chunked) Null _ _ h = rw h (Spelt-step _ _ _ _ (omega arith) refl refl refl)
  cell_is_read _ (N.LongShape c N.Chunked) (DataCell c' d) _ _ h = grind (arith, chunked_cell)
  cell_is_read _ _ x _ _ h = absurd h
