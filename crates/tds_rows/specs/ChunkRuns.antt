-- Chunks of a long value whose bytes lie together.
use Rattle.std.specs.Prelude.{◌≡◌, ℕ, Bool, List, ◌++◌, length, Option}
use Rattle.tds_text.specs.Conversion.{BeginsData, Conversion, Suits, conversion_rest}
use Rattle.tds_cells.specs.Cells.{ChunkLength, cell}
use Rattle.tds_cells.specs.CellTexts.{cell_so_far}
use Rattle.tds_cells.specs.Runs.{Writes}

-- After some content these bytes are chunks of so many bytes of data, and this is their text; what is withheld then is the rest of all the data.
pub record ChunksWritten (c : Conversion) (column : ℕ) (last : Bool) (total : Option ℕ) (content kept : List ℕ) (n : ℕ) (bytes text : List ℕ) : Type 0
  where
    pub more : List ℕ
    pub counted : length more ≡ n
    pub begun : BeginsData c (content ++ more)
    pub kept_is : kept ≡ conversion_rest c (content ++ more)
    pub writes : Writes (cell column) (cell_so_far column last) (ChunkLength c total content) bytes text (ChunkLength c total (content ++ more))

-- So they are after any content of so many bytes of which so many bytes are withheld, whatever conversion it is that has these words.
abbrev pub RunsChunks : (List ℕ → Type 0) → (List ℕ → Type 0) → (List ℕ → List ℕ) → (List ℕ → List ℕ) → ℕ → Bool → List ℕ → List ℕ → Option ℕ → ℕ
    → ℕ → List ℕ → List ℕ → Type 0
RunsChunks fit begins rest text unit quoted old new total sum n bytes made = (c : Conversion) → Suits fit begins rest text unit quoted c →
    (content : List ℕ) → old ≡ conversion_rest c content → BeginsData c content → length content ≡ sum →
    (column : ℕ) (last : Bool) → ChunksWritten c column last total content new n bytes made
