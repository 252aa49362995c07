-- Cells of values in one chunk at most whose bytes lie together, for `write_apart`; and the numbers before and after a chunk.
use Rattle.tds_cells.proofs as N
use N.{Chunked, List, [], arith, drop, length, little_number, suc, take, ℕ, ◌++◌, ◌+◌, ◌-◌, ◌<◌, ◌==◌, ◌^◌, ◌∙◌, ◌∷◌, ◌≡◌, ◌≢◌, ◌≤◌}

-- the data of so many bytes in the first chunk
abbrev chunk_data : ℕ → List ℕ → List ℕ
chunk_data n bytes = take n (drop 12 bytes)

-- the number in some bytes within others
pub four_at : (k : ℕ) (bytes : List ℕ) → k + 4 ≤ length bytes
    → (length (take 4 (drop k bytes)) ≡ 4) × (N.little (take 4 (drop k bytes)) ≡ little_number 4 (drop k bytes))
four_at = grind (arith, N.common_steps)

pub eight_at_front : (bytes : List ℕ) → 8 ≤ length bytes → (length (take 8 bytes) ≡ 8) × (N.little (take 8 bytes) ≡ little_number 8 bytes)
eight_at_front = grind arith

-- the terminator
pub zeros_at : (k : ℕ) (bytes : List ℕ) → k + 4 ≤ length bytes → little_number 4 (drop k bytes) ≡ 0 → take 4 (drop k bytes) ≡ 0 ∷ 0 ∷ 0 ∷ 0 ∷ []
zeros_at = grind (arith, N.common_steps)

bytes_are : (n : ℕ) (bytes : List ℕ) → ((i : ℕ) → N.slice_index bytes i < 256) → N.AreBytes (take n bytes)
bytes_are N.zero bytes low = tt
bytes_are (suc n) [] low = tt
bytes_are (suc n) (x ∷ xs) low = (low 0, bytes_are n xs (λ i. low (suc i)))

-- the size of the terminator, and of a chunk and those after it
pub chunks_end : (most : ℕ) (bytes : List ℕ) → little_number 4 bytes ≡ 0 → N.chunks_size (suc most) bytes ≡ 4
chunks_end = grind arith

pub chunks_next : (most n : ℕ) (bytes : List ℕ) → n ≡ little_number 4 bytes → 0 < n
    → N.chunks_size (suc most) bytes ≡ 4 + n + N.chunks_size most (drop (4 + n) bytes)
chunks_next = grind arith

pub size_is : (bytes : List ℕ) (k : ℕ) → little_number 8 bytes ≢ 2 ^ 64 - 1 → 8 + N.chunks_size (length bytes) (drop 8 bytes) ≡ k
    → k ≡ N.long_size Chunked bytes
size_is = grind arith

-- a cell has some bytes
pub end_some : (n k : ℕ) → k ≡ N.chunk_end n → (k == 0) ≡ N.false
end_some = grind arith

module _ (bytes : List ℕ) where
  -- the total alone
  no_chunk : N.HasOneChunk bytes 0 → N.SpellsChunked [] (take 12 bytes)
  no_chunk x =
      let total = eight_at_front bytes (omega arith) in
      record {
        total = take 8 bytes;
        rest = take 4 (drop 8 bytes);
        chunks = [];
        spelt = N.take-add 8 4 bytes;
        eight = total.0;
        known = grind arith;
        each = grind arith;
        all = N.refl;
      }

  -- the chunk's length, its data and the terminator
  parts : (n : ℕ) → take ((4 + n) + 4) (drop 8 bytes) ≡ (take 4 (drop 8 bytes) ++ chunk_data n bytes) ++ take 4 (drop (12 + n) bytes)
  parts _ = rw (N.take-add, N.take-add, N.drop-drop, N.drop-drop) (grind arith)

  one_chunk : (n : ℕ) → 0 < n → N.HasOneChunk bytes n → N.SpellsChunked (chunk_data n bytes) (take (16 + n) bytes)
  one_chunk n some x =
      let within : 16 + n ≤ length bytes = grind arith in
      let total = eight_at_front bytes (omega arith) in
      let d = chunk_data n bytes in
      let counted : length d ≡ n = grind (arith, N.length-take-le, N.length-drop) in
      let size : 16 + n ≡ 8 + ((4 + n) + 4) = omega arith in
      record {
        total = take 8 bytes;
        rest = take 4 (drop 8 bytes) ++ d ++ take 4 (drop (12 + n) bytes);
        chunks = d ∷ [];
        spelt = rw (size, N.take-add, parts);
        eight = total.0;
        known = grind arith;
        each = grind (arith, zeros_at);
        all = N.append-nil d;
      }

  -- its cell has as many bytes
  after_one : (n most : ℕ) → 0 < n → N.HasOneChunk bytes n → N.chunks_size (suc (suc most)) (drop 8 bytes) ≡ 4 + n + 4
  after_one n most some x =
      let end : drop (4 + n) (drop 8 bytes) ≡ drop (12 + n) bytes = rw N.drop-drop (grind arith) in
      let next = chunks_next (suc most) n (drop 8 bytes) x.counted some in
      grind arith

  pub one_chunk_size : (n : ℕ) → little_number 8 bytes ≢ 2 ^ 64 - 1 → N.HasOneChunk bytes n → N.chunk_end n ≡ N.long_size Chunked bytes
  one_chunk_size = grind (arith, size_is, after_one, chunks_end)

  -- one chunk whose total agrees, with the terminator, spells its data
  chunk_spells : (n : ℕ) → N.HasOneChunk bytes n → N.SpellsChunked (chunk_data n bytes) (take (N.chunk_end n) bytes)
  chunk_spells = grind (arith, N.eq_true, no_chunk, one_chunk)

module _ (column : ℕ) (c : N.Conversion) (last : N.Bool) (bytes text : List ℕ) where
  pub chunked_null : ((i : ℕ) → N.slice_index bytes i < 256) → 8 ≤ length bytes → little_number 8 bytes ≡ 2 ^ 64 - 1
      → text ≡ N.in_line column last N.null_field → N.WritesWhole (N.Total c) column last (take 8 bytes) text
  chunked_null low within all is =
      let total = eight_at_front bytes within in
      let ones = N.CellMeaning.eight_ones (take 8 bytes) total.0 (bytes_are 8 bytes low) (total.1 ∙ all) in
      record { value = N.Null; spelt = N.CellLaws.cell_is_read column (N.Wide Chunked) (N.LongShape c Chunked) N.Null _ tt ones; text_is = is }

  pub chunked_value : (n : ℕ) → N.HasOneChunk bytes n → N.is_fit c (take n (drop 12 bytes)) ≡ N.true
      → text ≡ N.in_line column last (N.long_field c (take n (drop 12 bytes))) → N.WritesWhole (N.Total c) column last (take (N.chunk_end n) bytes) text
  chunked_value n x fit is = record {
    value = N.DataCell c (chunk_data n bytes);
    spelt = N.CellLaws.cell_is_read column (N.Wide Chunked) (N.LongShape c Chunked) _ _ tt (N.refl, fit, chunk_spells bytes n x);
    text_is = is;
  }
