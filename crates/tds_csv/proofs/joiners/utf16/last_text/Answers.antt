use Rattle.tds_csv.proofs as N
use Rattle.tds_text.proofs as T
use N.joiners.utf16.last_text.Goals as goal

pub returns-then-kept-eq2 : goal.returns-then-kept-eq2
returns-then-kept-eq2 = grind (N.arith, T.Utf16Steps.characters_nil, N.append-nil)

pub returns-else-kept-eq2 : goal.returns-else-kept-eq2
returns-else-kept-eq2 = grind (N.arith, T.Utf16Steps.text_nil)
