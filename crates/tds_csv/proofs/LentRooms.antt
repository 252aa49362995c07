-- Bytes that were written into the room of a sink.
use Rattle.tds_csv.proofs as N
use N.{◌≡◌, ℕ, List, ◌++◌, length, take, arith, Ok}

-- all the room that was lent was written over
spare_bytes : (bytes lent written : List ℕ) → length written ≡ length lent → N.overwritten (length bytes) written (bytes ++ lent) ≡ bytes ++ written
spare_bytes = grind (arith, N.length-append, N.overwritten_all, N.take-append_seam)

-- what waited before
pub spare_before : (bytes lent written : List ℕ) → length written ≡ length lent
    → take (length bytes) (N.overwritten (length bytes) written (bytes ++ lent)) ≡ bytes
spare_before = grind (arith, spare_bytes, N.take-append_seam)

-- what was written
pub spare_written : (bytes lent written : List ℕ) → length written ≡ length lent
    → N.drop (length bytes) (N.overwritten (length bytes) written (bytes ++ lent)) ≡ written
spare_written = grind (arith, spare_bytes, N.drop-append_seam)

-- the bytes that wait, and what was written after them
spared : (bytes room written : List ℕ) (waiting : ℕ) → length written ≡ length room → waiting ≡ length bytes
    → (take waiting (N.overwritten (length bytes) written (bytes ++ room)) ≡ bytes)
    × (N.drop waiting (N.overwritten (length bytes) written (bytes ++ room)) ≡ written)
spared = grind (arith, spare_before, spare_written)

-- what is written into the room that a sink lends, and kept, was put
module _ {W U V : Type 0} {contents : W → N.Option (List ℕ)} {new : N.Sink W} {made : ℕ} {text : List ℕ} (sink : N.Sink W) (room written : List ℕ)
    (waiting : ℕ) (whole : length written ≡ length room) (at : waiting ≡ length sink.output.now.bytes) (going : sink.failed ≡ N.false)
    (is : take made written ≡ text) where
  pub kept_puts : {u : U} {v : V} → N.KeepsPiece contents (N.with_spare sink room written) new waiting made (Ok u) → N.PutsPiece contents sink new text (Ok v)
  kept_puts = grind (arith, spared)

  pub kept_breaks : {e : N.Stop} → N.KeepsPiece {U = U} contents (N.with_spare sink room written) new waiting made (N.Err e)
      → N.PutsPiece {U = V} contents sink new text (N.Err e)
  kept_breaks = grind (arith, spared)

-- so it was, whether a write failed or not
pub kept : {W U : Type 0} {contents : W → N.Option (List ℕ)} {new : N.Sink W} {made : ℕ} {text : List ℕ} (sink : N.Sink W) (room written : List ℕ)
    (waiting : ℕ) → length written ≡ length room → waiting ≡ length sink.output.now.bytes → sink.failed ≡ N.false → take made written ≡ text
    → (r : N.Result U N.Stop) → N.KeepsPiece contents (N.with_spare sink room written) new waiting made r → N.PutsPiece contents sink new text r
kept sink room written waiting whole at going is (Ok u) k = kept_puts sink room written waiting whole at going is k
kept sink room written waiting whole at going is (N.Err e) k = kept_breaks sink room written waiting whole at going is k
