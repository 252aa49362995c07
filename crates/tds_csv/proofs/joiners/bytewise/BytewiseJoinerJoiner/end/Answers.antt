use Rattle.tds_csv.proofs as N

pub returns : N.joiners.bytewise.BytewiseJoinerJoiner.end.Goals.returns
returns g c =
    let going = N.Puttings.passes c.args.sink.now.failed _ _ _ c.in_ok-check.ensures in
    N.Puttings.ends_whole going tt N.refl (λ h. h) (N.sym c.laws.ensures.empty)
    (N.Puttings.PutsPiece-none _ _ (tt {0}) (record { ready = c.requires; writing = going }))
