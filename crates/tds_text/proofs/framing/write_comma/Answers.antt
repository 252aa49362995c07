use Rattle.tds_text.proofs as N
use N.{◌≡◌, ℕ, ◌≤◌, [], ◌∷◌, ◌++◌}

comma_text : (column : ℕ) (to text : N.List ℕ) → (column ≡ 0 → ⊥) → 1 ≤ N.length to → N.take 1 (N.slice_set to 0 44) ++ text ≡ N.after_comma column text
comma_text column [] text h some = grind N.arith
comma_text column (x ∷ xs) text h some = N.sym (grind N.arith)

pub returns-clause-text : N.framing.write_comma.Goals.returns-clause-text
returns-clause-text = grind (N.arith, comma_text)
