use Rattle.tds_text.proofs as N
use N.utf16.convert_last.Goals as goal
use N.{◌≡◌, ◌≢◌, ◌%◌, ◌++◌, ℕ, List, [], length, ap, arith}
use N.Utf16Laws.{joins_utf16}
use Rattle.tds_text.specs.Utf16 as utf16

-- what is left of whole data has two bytes
two_left : (bytes : List ℕ) (used : ℕ) → length bytes % 2 ≡ 0 → N.LeavesRest bytes 0 used → used ≢ length bytes → length (N.drop used bytes) ≡ 2
two_left = grind (arith, joins_utf16, N.length-drop)

-- its text is U+FFFD
left_text : (bytes tail : List ℕ) → tail ≡ utf16.rest bytes → length tail ≡ 2 → utf16.text tail ≡ N.doubled (N.encode_utf8 0xFFFD)
left_text bytes tail is two =
    ap N.doubled (rw ((N.nil_from_length (N.drop 2 tail) (omega (arith, N.length-drop 2 tail))), N.Utf16Steps.characters_nil, N.append-nil) at
    (N.Utf16Steps.spells_held tail (omega arith) (ap (λ n. n % 2) two) (N.sym (rw (N.append-nil, N.append-nil, ← is) at (joins_utf16.keeps bytes [] tt)))))

-- so the text of whole data ends with it
ended : (bytes tail : List ℕ) → length bytes % 2 ≡ 0 → tail ≡ utf16.rest bytes → length tail ≡ 2
    → utf16.text bytes ≡ N.emit utf16.rest utf16.text bytes ++ N.doubled (N.encode_utf8 0xFFFD)
ended bytes tail whole is two = cc (joins_utf16.ends bytes whole, left_text bytes tail is two)

pub returns-clause-short : goal.returns-clause-short
returns-clause-short = grind (arith, N.Characters.doubled_length, two_left, N.length-drop)

pub returns-clause-text : goal.returns-clause-text
returns-clause-text = grind (arith, two_left, ended)
