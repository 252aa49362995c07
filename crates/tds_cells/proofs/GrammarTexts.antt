-- What bytes make by a grammar.
use Rattle.tds_cells.proofs as N
use N.{List, Writes, [], ℕ, ◌++◌, ◌≡◌}

module _ {S : Type 0} {g : N.Grammar S N.Fault} {text : S → List ℕ} where
  pub writes_none : {s : S} → Writes g text s [] [] s
  writes_none = search N.rules

  pub writes_both : {s t u : S} {a b p q : List ℕ} → Writes g text s a p t → Writes g text t b q u → Writes g text s (a ++ b) (p ++ q) u
  writes_both = grind (N.arith, N.Spelt-append, N.append_assoc)

-- a small grammar inside a big one, with a text before it
pub writes_inside : {S T : Type 0} {small : N.Grammar S N.Fault} {big : N.Grammar T N.Fault} {lift : S → T} {text : S → List ℕ} {whole : T
    → List ℕ} {s t : S} {a p : List ℕ} (front : List ℕ) → N.Inside small big lift → ((s : S) → front ++ text s ≡ whole (lift s))
    → Writes small text s a p t → Writes big whole (lift s) a p (lift t)
writes_inside = grind (N.arith, N.common_steps, N.Inside-Spelt)
