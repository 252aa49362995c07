-- Values in chunks that lie together, written chunk by chunk: the answers of `write_chunks` cite it.
use Rattle.tds_cells.proofs as N
use N.{Conversion, List, [], ap, arith, drop, length, refl, suc, sym, take, ℕ, ◌*◌, ◌++◌, ◌+◌, ◌-◌, ◌<◌, ◌^◌, ◌∙◌, ◌∷◌, ◌≡◌, ◌≢◌, ◌≤◌}

-- ---- no data

pub rest_none : (c : Conversion) → N.conversion_rest c [] ≡ []
rest_none = grind (arith, N.drop-nil)

text_none : (c : Conversion) → N.conversion_text c [] ≡ []
text_none = grind (arith, N.hex-nil, N.text_nil)

pub emit_none : (c : Conversion) → N.emit (N.conversion_rest c) (N.conversion_text c) [] ≡ []
emit_none = grind (arith, N.hex-nil, N.text_nil)

pub none_begins : (c : Conversion) → N.BeginsData c []
none_begins = grind arith

open_quoted : (c : Conversion) → N.is_quoted c ≡ N.true → N.open_field c [] ≡ N.quote ∷ []
open_quoted N.HexDigits quoted = absurd (N.true≢false (sym quoted))
open_quoted N.Utf16Text _ = ap (λ l. N.quote ∷ l) (emit_none N.Utf16Text)
open_quoted N.Windows1252Text _ = refl
open_quoted N.Utf8Text _ = ap (λ l. N.quote ∷ l) (emit_none N.Utf8Text)

-- what comes before the text was written
pub opens_binary : (content : N.Content) (to : List ℕ) → content ≡ N.Content.Binary → 2 ≤ length to
    → take 2 (N.slice_set (N.slice_set to 0 48) 1 120) ≡ N.open_field (N.conversion_of content) []
opens_binary _ (a ∷ b ∷ to) is _ = rw is (ap (λ l. N.binary_mark ++ l) (sym (emit_none N.HexDigits)))
opens_binary _ to _ few = grind arith

pub opens_quoted : (content : N.Content) (to : List ℕ) → (content ≡ N.Content.Binary → ⊥) → 2 ≤ length to
    → take 1 (N.slice_set to 0 34) ≡ N.open_field (N.conversion_of content) []
opens_quoted content (a ∷ to) other _ = grind (arith, open_quoted)
opens_quoted _ to _ few = grind arith

-- ---- chunk after chunk

-- The chunks before this place were read, and the open field of their data is the text so far; nothing of them is withheld.
pub record WroteChunks (c : Conversion) (bytes to : List ℕ) (at made sum : ℕ) : Type 0 where
  pub content : List ℕ
  pub counted : length content ≡ sum
  pub begun : N.BeginsData c content
  pub alone : N.conversion_rest c content ≡ []
  pub text_is : take made to ≡ N.open_field c content
  pub front : List ℕ
  pub read : take at bytes ≡ take 8 bytes ++ front
  pub chunks : List (List ℕ)
  pub spelt : N.CellMeaning.BeginsChunks chunks front
  pub all : N.concat chunks ≡ content
  pub turns : ℕ
  pub few : 5 * turns + 8 ≤ at
  pub size : (most : ℕ) → 8 + N.chunks_size (turns + most) (drop 8 bytes) ≡ at + N.chunks_size most (drop at bytes)

-- the bytes of the next one
pub next_bytes : (bytes : List ℕ) (at n : ℕ) → take (at + (4 + n)) bytes ≡ take at bytes ++ (take 4 (drop at bytes) ++ take n (drop (at + 4) bytes))
next_bytes _ _ _ = rw (N.take-add, N.take-add, N.drop-drop)

module _ (c : Conversion) (bytes : List ℕ) where
  -- before the first one
  pub wrote_none : (to : List ℕ) (made : ℕ) → take made to ≡ N.open_field c [] → WroteChunks c bytes to 8 made 0
  wrote_none to made is = record {
    content = [];
    counted = refl;
    begun = none_begins c;
    alone = rest_none c;
    text_is = is;
    front = [];
    read = sym (N.append-nil (take 8 bytes));
    chunks = [];
    spelt = refl;
    all = refl;
    turns = 0;
    few = omega arith;
    size = λ most. grind arith;
  }

  -- after one more, whose data has a text of its own
  pub wrote_more : {to : List ℕ} {at made sum : ℕ} (n added : ℕ) (part new after : List ℕ) → WroteChunks c bytes to at made sum → at + 4 + n ≤ length bytes
      → n ≡ N.little_number 4 (drop at bytes) → 0 < n → part ≡ take n (drop (at + 4) bytes) → N.BeginsData c part → N.conversion_rest c part ≡ []
      → take added new ≡ N.emit (N.conversion_rest c) (N.conversion_text c) part → made ≤ length to → added ≤ length new
      → WroteChunks c bytes (take made to ++ (new ++ after)) (at + (4 + n)) (made + added) (sum + n)
  wrote_more {to = to} {at = at} {made = made} n added part new after x within counted some part_is begins alone text room fits =
      let header = take 4 (drop at bytes) in
      let four = N.ChunkedCells.four_at at bytes (omega arith) in
      let size : length part ≡ n = ap length part_is ∙ N.length-take-le n (drop (at + 4) bytes) (omega (arith, N.length-drop (at + 4) bytes)) in
      let one : N.SpellsChunk part (header ++ part) =
      record { header = header; spelt = refl; four = four.0; counted = four.1 ∙ sym counted ∙ sym size; some = omega arith } in
      let joins = N.joins_by_name c in
      let begun = joins.outward x.content part (rw x.alone begins) in
      let tail = N.RunSteps.made_more made added to new after room fits in
      let grows = rw x.alone at (N.open_grows c x.content part begun) in
      record {
        content = x.content ++ part;
        counted = omega (arith, N.length-append x.content part, x.counted, size);
        begun = begun;
        alone = joins.keeps x.content part begun ∙ rw x.alone alone;
        text_is = tail ∙ rw (x.text_is, text) grows;
        front = x.front ++ (header ++ part);
        read = grind (arith, next_bytes, N.append_assoc);
        chunks = x.chunks ++ part ∷ [];
        spelt = N.CellMeaning.more_chunks x.chunks x.front part (header ++ part) x.spelt one;
        all = grind (arith, N.concat-append, N.append-nil);
        turns = suc x.turns;
        few = omega (arith, x.few);
        size = λ most.
            let before = x.size (suc most) in
            let next = N.ChunkedCells.chunks_next most n (drop at bytes) counted some in
            grind (arith, N.drop-drop);
      }

  -- after the terminator, if the total agrees
  pub chunks_written : {to : List ℕ} {at made sum : ℕ} (total end room : ℕ) (closed : List ℕ) → WroteChunks c bytes to at made sum
      → at + 4 ≤ length bytes → N.little_number 4 (drop at bytes) ≡ 0 → total ≡ N.little_number 8 bytes → N.little_number 8 bytes ≢ 2 ^ 64 - 1 → total < 2 ^ 64
      → N.is_total (N.known_total total) sum ≡ N.true → take end closed ≡ take made to ++ N.closing (N.is_quoted c) → end ≤ room - 3
      → N.LongWritten c N.Chunked bytes room closed (N.Some (record { used = at + 4; made = end }))
  chunks_written {to = to} {at = at} {made = made} {sum = sum} total end room closed x within none total_is some most agrees is fits = (
    record {
      whole =
          let most = length bytes - x.turns - 1 in
          let before = x.size (suc most) in
          let all : length bytes ≡ x.turns + suc most = omega (arith, x.few) in
          N.ChunkedCells.size_is bytes (at + 4) some (grind arith);
      used = within;
      made = fits;
    },
    λ column last.
        let joins = N.joins_by_name c in
        let fit = (N.fit_by_test c x.content).1 (joins.fit_whole x.content x.begun (rw x.alone ((N.fit_by_test c []).0 (N.no_data_is_fit c)))) in
        let zeros = N.ChunkedCells.zeros_at at bytes within none in
        let eight = N.ChunkedCells.eight_at_front bytes (omega (arith, x.few)) in
        let spells : N.SpellsChunked x.content (take (at + 4) bytes) = record {
          total = take 8 bytes;
          rest = x.front ++ take 4 (drop at bytes);
          chunks = x.chunks;
          spelt = N.take-add at 4 bytes ∙ rw x.read (N.append_assoc (take 8 bytes) x.front (take 4 (drop at bytes)));
          eight = eight.0;
          known = grind arith;
          each = rw zeros (N.CellMeaning.end_chunks x.chunks x.front x.spelt);
          all = x.all;
        } in
        record {
          value = N.DataCell c x.content;
          spelt = N.CellLaws.cell_is_read column (N.Wide N.Chunked) (N.LongShape c N.Chunked) _ _ tt (refl, fit, spells);
          text_is = rw (is, x.text_is, rw (x.alone, text_none c) at (N.open_closes c x.content fit));
        },
  )
