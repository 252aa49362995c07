-- Cells by how their values are laid out.
use Rattle.tds_cells.proofs as N
use N.{Each, List, true, ℕ, ◌&&◌, ◌<◌, ◌≡◌}
use Rattle.tds_cells.specs.declared.layout.Layout.TheVariants.{Counted, Fixed, Short as ShortLayout}

pub each_set : (P : N.CellFormat → Type 0) (formats : List N.CellFormat) (k : ℕ) (f : N.CellFormat) → Each P formats → k < N.length formats → P f
    → Each P (N.slice_set formats k f)
each_set = search N.rules

-- one more format of kinds of which something is said, or a format of another kind
pub kind_set : (of : N.Kind → N.Bool) (formats : List N.CellFormat) (k : ℕ) (f : N.CellFormat) (all one : N.Bool) → (all ≡ true → Each (λ g. of g.kind
    ≡ true) formats)
    → k < N.length formats → one ≡ of f.kind → (all && one) ≡ true → Each (λ g. of g.kind ≡ true) (N.slice_set formats k f)
kind_set of formats k f true true before within is _ = each_set (λ g. of g.kind ≡ true) formats k f (before N.refl) within (N.sym is)
kind_set _ _ k f true N.false _ _ _ both = cc
kind_set _ _ k f N.false _ _ _ _ both = cc

-- ---- a value that is there

-- The value of a cell that is laid out so is there in these bytes, and has this many: at once, or after a length of one byte.
abbrev pub HasValueAt : N.Layout → List ℕ → ℕ → ℕ → Type 0
HasValueAt (Fixed k) bytes start n = (start ≡ 0) × (n ≡ k)
HasValueAt Counted bytes start n = (start ≡ 1) × (n ≡ N.slice_index bytes 0)
HasValueAt layout bytes start n = ⊥

-- after a length of one byte
pub counted_there : {l : N.Layout} (bytes : List ℕ) {start : ℕ × ℕ} → l ≡ Counted → start ≡ (1, N.slice_index bytes 0)
    → HasValueAt l bytes start.0 start.1
counted_there = grind N.arith

module _ (charset : N.Charset) (kind : N.Kind) where
  -- it is that of a scalar kind
  pub value_there : (l : N.Layout) (bytes : List ℕ) (start n : ℕ) → N.IsLaidOut charset kind l → HasValueAt l bytes start n → (N.is_scalar kind ≡ true)
      × ((start ≡ N.value_start kind) × (n ≡ N.value_length kind bytes))
  value_there = grind N.arith
