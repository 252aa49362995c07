use Rattle.tds_csv.proofs as N
use N.{◌≡◌}
use Rattle.tds_text.specs.Utf8.{rest}

pub returns-clause-begun : N.joiners.utf8.Utf8JoinerJoiner.write.Goals.returns-clause-begun
returns-clause-begun c =
    let done = c.in_ok-done.ensures in
    let is : c.set.new.self ≡ rest c.args.piece.now = grind (N.arith, N.take_all, N.length-drop) in
    N.Utf8Pushing.rest_begins c.args.piece.now is done.begun
