-- Chunks of a long value that lie together, one after the other: their elements, and their text.
use Rattle.tds_rows.proofs as N
use N.{◌≡◌, ℕ, ◌+◌, ◌-◌, ◌*◌, ◌<◌, ◌≤◌, Bool, true, List, [], ◌++◌, length, take, drop, arith, Option}
use N.Paths.{At, over}
use Rattle.tds_rows.specs.ChunkRuns.{ChunksWritten, RunsChunks}
use Rattle.tds_cells.proofs.GrammarTexts.{writes_both, writes_none}
use Rattle.tds_cells.proofs.RunSteps.{made_more}
use Rattle.tds_cells.proofs.SeveralChunks.{next_bytes}
use Rattle.tds_columns.proofs.ViewLaws.{all_after}

module _ (c : N.Conversion) (column : ℕ) (last : Bool) (total : Option ℕ) where
  -- the length of a chunk and its data are elements
  chunk_writes : (content element piece : List ℕ) (n : ℕ) → length element ≡ 4 → N.little element ≡ n → length piece ≡ n → 0 < n
      → N.within_total total (length content + n) ≡ true → N.BeginsData c (content ++ piece)
      → N.Writes (N.Words.cell column) (N.cell_so_far column last) (N.ChunkLength c total content) (element ++ piece) (N.added_text c content piece)
      (N.ChunkLength c total (content ++ piece))
  chunk_writes content element piece n whole is counted some fits begun =
      let holds = N.LongValues.chunk_holds column c total in
      record {
        spelt = N.Spelt-append _ _ element _ piece _ (N.Spelt-step _ _ _ _ (omega arith) whole (grind arith) (grind arith))
            (N.LongValues.content_spelt last holds content piece n 0 (omega arith) begun (λ _ _. tt));
        text_is = grind (arith, N.LongValues.text_more);
      }

  module _ {content kept : List ℕ} where
    -- no chunk
    pub chunks_none : kept ≡ N.conversion_rest c content → N.BeginsData c content → ChunksWritten c column last total content kept 0 [] []
    chunks_none is begun = grind (arith, N.append-nil, writes_none)

-- At a place of the bytes a chunk of this many bytes lies whole, which is neither the terminator nor passes the total after so many bytes of data.
pub record HasChunk (bytes : List ℕ) (at : ℕ) (total : Option ℕ) (sum n : ℕ) : Type 0 where
  pub some : 0 < n
  pub whole : at + 4 + n ≤ length bytes
  pub number : N.little (take 4 (drop at bytes)) ≡ n
  pub fits : N.within_total total (sum + n) ≡ true

-- the lengths of its parts
pub chunk_lengths : {bytes : List ℕ} {at sum n : ℕ} {total : Option ℕ} → HasChunk bytes at total sum n
    → (length (take 4 (drop at bytes)) ≡ 4) × (length (take n (drop (at + 4) bytes)) ≡ n)
chunk_lengths x = grind (arith, N.length-drop, N.length-take-le)

-- chunks that lay together were read, as the words of their conversion say it
pub run_at : {fit begins : List ℕ → Type 0} {rest text : List ℕ → List ℕ} {size : ℕ} {quoted : Bool} {c : N.Conversion} {total : Option ℕ}
    {kept kept' : List ℕ} {sum n : ℕ} {q r : At} → N.Suits fit begins rest text size quoted c
    → over (N.PutsRun (RunsChunks fit begins rest text size quoted kept kept' total sum n)) q r → (column : ℕ) (last : Bool) (content : List ℕ)
    → kept ≡ N.conversion_rest c content → N.BeginsData c content → length content ≡ sum
    → over (N.PutsRun (ChunksWritten c column last total content kept' n)) q r
run_at {c = c} suits y column last content is begun counted = grind arith

-- and their text was put
pub streamed_run : {column : ℕ} {last : Bool} {c : N.Conversion} {total : Option ℕ} {kept kept' : List ℕ} {sum n k : ℕ} {p q r : At}
    → k ≡ sum + n → N.LongValues.Streamed column last c total kept sum p q
    → ((content : List ℕ) → kept ≡ N.conversion_rest c content → N.BeginsData c content → length content ≡ sum
    → over (N.PutsRun (ChunksWritten c column last total content kept' n)) q r)
    → N.LongValues.Streamed column last c total kept' k p r
streamed_run {p = p} {q} {r} is x run =
    let y = run x.content x.kept_is x.begun x.counted in
    record {
      content = x.content ++ y.wrote.more;
      counted = grind (arith, N.length-append);
      begun = y.wrote.begun;
      kept_is = y.wrote.kept_is;
      path = N.Paths.path_both x.path (record {
        bytes = y.bytes;
        made = y.text;
        writes = y.wrote.writes;
        takes = grind arith;
        puts = y.puts;
        place_is = y.place_is;
      });
    }

-- the text that a chunk adds has at most three bytes for each of its own
pub added_most : {begins : List ℕ → Type 0} {rest text : List ℕ → List ℕ} {kept kept' new : List ℕ} {added : ℕ} (n : ℕ) (xs : List ℕ)
    → N.WritesAdded begins rest text kept kept' (take n xs) new added → added ≤ 3 * n
added_most n xs y = grind (arith, N.length-take)

-- one more chunk was written, after those so far
pub chunk_step : {fit begins : List ℕ → Type 0} {rest text : List ℕ → List ℕ} {size : ℕ} {quoted : Bool} {c : N.Conversion}
    (suits : N.Suits fit begins rest text size quoted c) (column : ℕ) (last : Bool) {total : Option ℕ} {content kept kept' bytes new : List ℕ}
    {at made so_far sum n added : ℕ} (to after : List ℕ) → length content ≡ sum
    → ChunksWritten c column last total content kept so_far (take at bytes) (take made to)
    → HasChunk bytes at total (sum + so_far) n
    → N.WritesAdded begins rest text kept kept' (take n (take (length bytes - (at + 4)) (drop (at + 4) bytes))) new added
    → made ≤ length to → 3 * n ≤ length new
    → ChunksWritten c column last total content kept' (so_far + n) (take (at + (4 + n)) bytes) (take (made + added) (take made to ++ (new ++ after)))
chunk_step suits column last {content = content} {bytes = bytes} {new} {at} {made} {so_far = so_far} {n = n} {added} to after counted x chunk y room fits =
    let sizes = chunk_lengths chunk in
    let piece = take n (drop (at + 4) bytes) in
    let z = N.JoinedPieces.piece_added suits (content ++ x.more) x.kept_is x.begun (rw (all_after bytes (at + 4)) at y) in
    let tail = made_more made added to new after room (omega (arith, added_most n _ y)) in
    let regroup = N.append_assoc content x.more piece in
    let sum : length content + so_far ≡ length (content ++ x.more) = grind (arith, N.length-append) in
    let one = chunk_writes _ column last _ (content ++ x.more) _ piece n sizes.0 chunk.number sizes.1 chunk.some (search N.rules) z.0 in
    rw (next_bytes bytes at n, tail) (record {
      more = x.more ++ piece;
      counted = grind (arith, N.length-append);
      begun = rw regroup at z.0;
      kept_is = rw regroup at z.2;
      writes = rw (z.1, ← regroup) (writes_both x.writes one);
    })
