-- Lists of bytes.
use Rattle.tds_export.proofs as N
use N.{AreBytes, List, [], arith, suc, zero, ℕ, ◌++◌, ◌<◌, ◌==◌, ◌^◌, ◌∷◌, ◌≡◌}

-- each of some bytes is below 256
pub byte_below : (xs : List ℕ) (i : ℕ) → AreBytes xs → N.slice_index xs i < 256
byte_below [] i h = omega arith
byte_below (x ∷ xs) zero h = h.0
byte_below (x ∷ xs) (suc i) h = byte_below xs i h.1

-- so many bytes spell a number below that power
pub little_below : (n i : ℕ) (xs : List ℕ) → AreBytes xs → N.little_from i n xs < 256 ^ n
little_below n i xs h = N.little_from-lt i n xs (λ k. byte_below xs k h)

pub AreBytes-append : (a b : List ℕ) → AreBytes a → AreBytes b → AreBytes (a ++ b)
AreBytes-append [] b h k = k
AreBytes-append (x ∷ a) b h k = (h.0, AreBytes-append a b h.1 k)

pub AreBytes-replicate : (n x : ℕ) → x < 256 → AreBytes (N.replicate n x)
AreBytes-replicate zero x h = tt
AreBytes-replicate (suc n) x h = (h, AreBytes-replicate n x h)

-- a number that a test names
pub exactly : (P : ℕ → Type 0) (n m : ℕ) → (n == m) ≡ N.true → P m → P n
exactly = grind arith

-- These bytes lead from a state to a whole value.
abbrev pub Ends : {S X : Type 0} → N.Grammar S N.Fault → (X → S) → S → List ℕ → Type 0
Ends {S} {X} g whole s rest = (x : X) × N.Spelt g s rest (whole x)

-- some, and those after them
pub then_ends : {S X : Type 0} {g : N.Grammar S N.Fault} {whole : X → S} {s t : S} {e rest : List ℕ} → N.Spelt g s e t → Ends g whole t rest
    → Ends g whole s (e ++ rest)
then_ends = grind (arith, N.Spelt-append)

-- what each element of bytes keeps holds at their end
pub bytes_induct : {S : Type 0} {g : N.Grammar S N.Fault} (P : S → List ℕ → Type 0)
    → ((s : S) (b e : List ℕ) → P s b → AreBytes e → N.IsNext g s e → P (g.add s e) (b ++ e)) → (s : S) → P s [] → (bytes : List ℕ) (t : S)
    → AreBytes bytes → N.Spelt g s bytes t → P t bytes
bytes_induct {g} P step s begins _ t are h =
    N.Spelt-induct g (λ q b. AreBytes b → P q b) (grind (arith, N.AreBytes-front, N.AreBytes-back)) s (λ all. begins) _ t h are
