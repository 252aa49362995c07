-- What a text that grows is, and what a cell that is read adds to it.
use Rattle.tds_cells.proofs as N
use N.{List, None, Some, [], arith, true, ℕ, ◌++◌, ◌==◌, ◌||◌, ◌∷◌, ◌≡◌}

-- the second text begins with the first
abbrev pub Grows : List ℕ → List ℕ → Type 0
Grows a b = (more : List ℕ) × (a ++ more ≡ b)

pub grows_same : (a : List ℕ) → Grows a a
grows_same = search N.rules

-- the empty text grows to any
pub grows_all : (b : List ℕ) → Grows [] b
grows_all b = (b, N.refl)

pub grows_trans : (a b c : List ℕ) → Grows a b → Grows b c → Grows a c
grows_trans = grind (arith, N.append_assoc)

-- what stands in front stays
pub grows_under : (x a b : List ℕ) → Grows a b → Grows (x ++ a) (x ++ b)
grows_under = grind (arith, N.append_assoc)

pub joined_more : (fs gs : List (List ℕ)) → Grows (N.joined fs) (N.joined (fs ++ gs))
joined_more [] gs = grind arith
joined_more (f ∷ []) [] = grows_same f
joined_more (f ∷ []) (g ∷ gs) = (N.codes "," ++ N.joined (g ∷ gs), N.sym (N.append_assoc f _ _))
joined_more (f ∷ h ∷ fs) gs = grows_under _ _ _ (joined_more (h ∷ fs) gs)

-- the text of a field that may not be there yet
abbrev pub OptionGrows : N.Option (List ℕ) → N.Option (List ℕ) → Type 0
OptionGrows None b = Unit {0}
OptionGrows (Some a) None = ⊥
OptionGrows (Some a) (Some b) = Grows a b

open_more : (c : N.Conversion) (a b : List ℕ) → N.is_begun c (a ++ b) ≡ true → Grows (N.open_field c a) (N.open_field c (a ++ b))
open_more = grind (arith, N.open_grows, N.begun_by_test)

long_grows : (c : N.Conversion) (a : List ℕ) → N.is_fit c a ≡ true → Grows (N.open_field c a) (N.long_field c a)
long_grows c a h = (N.conversion_text c _ ++ N.closing _, N.open_closes c a h)

-- the last byte of a short value leaves it fit
pub last_fit : (left : ℕ) (b : N.Bool) → (N.nat_lt 0 left || b) ≡ true → (left == 0) ≡ true → b ≡ true
last_fit = grind arith

module _ (column : ℕ) where
  -- each element of a cell adds to its text
  pub cell_grows : (p : N.CellPart) (e : List ℕ) → N.IsNext (N.cell column) p e → OptionGrows (N.field_so_far p) (N.field_so_far (N.cell_add p e))
  cell_grows = grind (arith, N.common_steps, N.CellMeaning.unless_none, open_more, long_grows, last_fit)
