-- The laws of the conversions in which each byte stands alone.
use Rattle.tds_text.proofs as N
use N.{List, arith, length, take, ℕ, ⊤, [], ◌*◌, ◌++◌, ◌+◌, ◌-◌, ◌∷◌, ◌≡◌, ◌≤◌}
use Rattle.tds_text.specs.Binary as binary
use Rattle.tds_text.specs.Windows1252 as windows_1252
use Rattle.hex.specs.Hex.{encode_with}

joins_single : {text : List ℕ → List ℕ} → N.IsBytewise text → N.JoinsPieces (λ _. ⊤) (λ _. ⊤) (λ _. []) text
joins_single = grind (arith, N.append-nil, N.take_all)

-- the digits of two pieces
pub hex-append : (t x y : List ℕ) → encode_with t (x ++ y) ≡ encode_with t x ++ encode_with t y
unfolding encode_with
hex-append t [] y = N.refl
hex-append t (b ∷ x) y = rw (hex-append t x y)

-- no bytes have no digits
pub hex-nil : N.encode_lower [] ≡ []
unfolding encode_with
hex-nil = N.refl

pub hex_bytewise : N.IsBytewise N.encode_lower
hex_bytewise = grind (arith, hex-append, N.lower_digits, hex-nil)

-- two digits a byte
hex-length : (t xs : List ℕ) → length (encode_with t xs) ≡ 2 * length xs
unfolding encode_with
hex-length t [] = N.refl
hex-length t (b ∷ xs) = omega (arith, hex-length t xs)

-- the digits of the first bytes come first
pub hex-front : (n m : ℕ) (xs : List ℕ) → n ≤ length xs → take (2 * n) (N.encode_lower (take (n + m) xs)) ≡ N.encode_lower (take n xs)
hex-front = grind (arith, N.common_steps, N.take-add, hex-append, N.lower_digits, N.take_at, hex-length, N.length-take-le)

-- the digits of bytes come first among those of bytes that begin with them
pub hex_padded : (bytes source written more : List ℕ) (m : ℕ) → N.LiesIn bytes source → length bytes ≤ m → m ≤ length source
    → written ≡ N.encode_lower (take m source) → take (2 * length bytes) (written ++ more) ≡ N.encode_lower bytes
hex_padded bytes source written more m lies most within is =
    let n = length bytes in
    let split : m ≡ n + (m - n) = omega arith in
    let size = hex-length N.lower_digits (take m source) in
    grind (arith, N.take-append-le, N.length-take-le, hex-front, N.encode_lower)

-- bytes as hexadecimal digits may come in pieces
pub joins_binary : N.JoinsPieces binary.IsFit binary.IsFit binary.rest binary.text
joins_binary = joins_single hex_bytewise

-- the text of two pieces
pub windows_1252-append : (x y : List ℕ) → windows_1252.text (x ++ y) ≡ windows_1252.text x ++ windows_1252.text y
windows_1252-append = grind (arith, N.map-append, N.encodes-append, N.JoiningLemmas.doubled-append)

pub windows_1252_bytewise : N.IsBytewise windows_1252.text
windows_1252_bytewise = grind (arith, windows_1252-append)

-- text in Windows-1252 may come in pieces
pub joins_windows_1252 : N.JoinsPieces windows_1252.IsFit windows_1252.IsFit windows_1252.rest windows_1252.text
joins_windows_1252 = joins_single windows_1252_bytewise

pub ruleset hex_laws = (hex-append, hex-nil)

pub ruleset windows_1252_laws = (windows_1252-append)
