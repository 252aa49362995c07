use Rattle.tds_text.proofs as N
use N.{◌∙◌, ◌++◌}

pub returns-then-bytes-at-lt224-clause-taken : N.usual.take_beyond.Goals.returns-then-bytes-at-lt224-clause-taken
returns-then-bytes-at-lt224-clause-taken c =
    c.put_lanes.ensures ∙ N.ap (λ x. N.take c.args.made c.args.to.now ++ x)
    (grind (N.arith, N.LaneMasks.front_alike c.args.bytes.now c.args.source.now c.args.at c.joined_characters-n.result 16))
