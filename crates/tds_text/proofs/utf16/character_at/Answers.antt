use Rattle.tds_text.proofs as N
use N.{◌∙◌, ◌++◌, ◌%◌, ap}
use Rattle.tds_text.specs.Utf16 as utf16

pub returns-in-None-clause-spells : N.utf16.character_at.Goals.returns-in-None-clause-spells
returns-in-None-clause-spells c =
    let len = N.length-drop _ _ in
    N.Utf16Steps.spells_held (N.drop _ c.args.bytes.now) (omega N.arith) (ap (λ n. n % 2) len ∙ c.requires.whole) c.in-None.ensures.gives
    ∙ ap (λ l. N.encode_utf8 65533 ++ utf16.characters l) (N.drop-drop 2 _ c.args.bytes.now)
