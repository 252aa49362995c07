-- Cells of short values whose bytes lie together.
use Rattle.tds_cells.proofs as N
use N.{[], arith, drop, length, take, ℕ, ◌%◌, ◌++◌, ◌+◌, ◌/◌, ◌<◌, ◌∙◌, ◌∷◌, ◌≡◌, ◌≢◌, ◌≤◌}
use N.CellLaws.{cell_is_read}

module _ (column : ℕ) (kind : N.Kind) (c : N.Conversion) (last : N.Bool) (bytes text : N.List ℕ) (within : 2 ≤ length bytes) (low : N.slice_index bytes 0 < 256)
    (high : N.slice_index bytes 1 < 256) where
  pub short_null : N.little_number 2 bytes ≡ 65535 → text ≡ N.in_line column last N.null_field → N.WritesWhole (N.ShortLength c) column last (take 2 bytes) text
  short_null all is =
      let a : N.slice_index bytes 0 ≡ 255 = omega arith in
      let b : N.slice_index bytes 1 ≡ 255 = omega arith in
      record { value = N.Null; spelt = cell_is_read column kind (N.LongShape c N.Short) N.Null _ tt (grind arith ∙ (λ i. a i ∷ b i ∷ [])); text_is = is }

  pub short_value : (n : ℕ) → n ≡ N.little_number 2 bytes → n ≢ 65535 → 2 + n ≤ length bytes → N.is_fit c (take n (drop 2 bytes)) ≡ N.true
      → text ≡ N.in_line column last (N.long_field c (take n (drop 2 bytes)))
      → N.WritesWhole (N.ShortLength c) column last (take (2 + n) bytes) text
  short_value n counted some all fit is =
      let d = take n _ in
      let whole = N.length-take-le n (drop 2 bytes) (omega (arith, N.length-drop 2 bytes)) in
      let a : N.slice_index bytes 0 ≡ length d % 256 = omega arith in
      let b : N.slice_index bytes 1 ≡ length d / 256 = omega arith in
      let front = grind arith ∙ (λ i. a i ∷ b i ∷ []) in
      let counted = N.take-add 2 n bytes ∙ N.ap (λ l. l ++ d) front in
      record { value = N.DataCell c d; spelt = cell_is_read column kind (N.LongShape c N.Short) _ _ tt (N.refl, fit, omega arith, counted); text_is = is }
