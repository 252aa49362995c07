use Rattle.tds_values.proofs as N
use N.{◌++◌, ◌+◌, ◌-◌, ◌∙◌, ◌≡◌}
use Rattle.std.specs.Int.{to_le_bytes, w64}

pub returns-clause-written : N.digits.put_after.Goals.returns-clause-written
returns-clause-written c =
    let at = c.args.at in
    let skipped = c.args.skipped in
    let front = N.take at c.args.to.now in
    let put : N.take (at + (8 - skipped)) c.put_piece.new.to ≡ front ++ N.drop skipped (to_le_bytes w64 c.word.result) =
    grind (N.arith, (N.WordLemmas.shifted_put front c.put_piece.new.to at skipped (8 - skipped) 8 c.word.result), N.length-take-le) in
    put ∙ N.ap (λ bytes. front ++ bytes) (N.WordLemmas.digits_left skipped (8 - skipped) 8 c.args.n (omega N.arith) c.word.ensures)
