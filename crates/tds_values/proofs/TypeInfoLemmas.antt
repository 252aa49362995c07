-- The type byte decides how many bytes a TYPE_INFO has, so none begins another, and each describes one kind.
use Rattle.tds_values.proofs as N
use N.{Kind, Some, arith, length, ℕ, [], ◌++◌, ◌∷◌, ◌≡◌}
use Rattle.tds_values.specs.TypeInfo.{rest_length, named_kind}

-- the numbers of a TYPE_INFO are allowed
pub valid_of : (k : Kind) (bytes : N.List ℕ) → N.IsTypeInfo k bytes → N.is_valid k ≡ N.true
valid_of k bytes h = grind arith

-- the type byte decides the length
pub rest_length_of : (k : Kind) (b : ℕ) (rest : N.List ℕ) → N.IsTypeInfo k (b ∷ rest) → rest_length b ≡ Some (length rest)
rest_length_of k b rest h = grind arith

-- no TYPE_INFO begins another
pub one_type_info : (k j : Kind) (a c x y : N.List ℕ) → N.IsTypeInfo k a → N.IsTypeInfo j c → a ++ x ≡ c ++ y → (a ≡ c) × (k ≡ j)
one_type_info k j [] c x y h g e = cc
one_type_info k j (b ∷ p) [] x y h g e = cc
one_type_info k j (b ∷ p) (d ∷ q) x y h g e =
    let byte : b ≡ d = cc in
    let long : length p ≡ length q = cc (byte, rest_length_of k b p h, rest_length_of j d q g) in
    let same : p ≡ q = cc (N.take_at p x (length p) N.refl, N.take_at q y (length p) (N.sym long)) in
    (cc, cc)

some_of : (o : N.Option Kind) → N.is_some o ≡ N.true → (k : Kind) × (o ≡ Some k)
some_of o h = grind arith

-- a type byte after which nothing follows describes a kind
pub bare_type : (byte : ℕ) → rest_length byte ≡ Some 0 → (k : Kind) × (N.kind_of (byte ∷ []) ≡ Some k)
unfolding rest_length named_kind
bare_type byte h = grind (arith, some_of)
