use Rattle.tds_export.proofs as N
use N.exporter.Exporter.token.Goals as goal
use N.{[], ◌-◌, ◌∷◌, ◌≡◌}
use N.TokenSteps.{stops_further, stops_quietly}

pub returns-in_err-byte-clause-gives : goal.returns-in_err-byte-clause-gives
returns-in_err-byte-clause-gives g c = λ _ tracks holds noted. let sink = c.requires.sink in
    N.passed _ _ _ _ c.from_residual.ensures.1 (stops_quietly N.refl holds sink.ready.2 sink.writing
    (N.cut_at_once _ _ _ _ _ [] _ _ (omega N.arith) c.in_err-byte.ensures.gives.0 (grind N.arith)))

-- ---- a token

pub returns-in_ok-body-in-Ok-clause-gives : goal.returns-in_ok-body-in-Ok-clause-gives
returns-in_ok-body-in-Ok-clause-gives g c = λ tokens tracks holds noted. let read = rw c.in-Some.is at c.in_ok-byte.ensures.gives in
    let x = c.in_ok-body-in-Ok.ensures.reads tokens (grind N.arith) holds noted in (
      N.TokenSteps.reads_after_byte (N.TokenSteps.begins_lead c.in-Ok.ensures holds.bytes c.requires.described tracks.described) c.requires.sink.ready.2
          read.takes read.place_is x.0,
      x.1,
    )

pub returns-in_err-body-in-Ok-clause-gives : goal.returns-in_err-body-in-Ok-clause-gives
returns-in_err-body-in-Ok-clause-gives g c = λ tokens tracks holds noted. let read = rw c.in-Some.is at c.in_ok-byte.ensures.gives in
    N.passed _ _ _ _ c.from_residual-in_err-body-in-Ok.ensures.1 (stops_further (N.TokenSteps.first (N.TokenSteps.begins_lead
    c.in-Ok.ensures holds.bytes c.requires.described tracks.described) c.requires.sink.ready.2 read.takes) read.place_is
    (c.in_err-body-in-Ok.ensures.reads tokens (grind N.arith) holds noted))

-- ---- a byte that begins no token

pub returns-in-Err-clause-gives : goal.returns-in-Err-clause-gives
returns-in-Err-clause-gives g c = λ _ tracks holds noted. let run = c.args.self.now in
    let sink = c.requires.sink in
    let read = rw c.in-Some.is at c.in_ok-byte.ensures.gives in
    let at : c.place-place.result - 1 ≡ run.payload.now.place = omega (N.arith, read.place_is, c.place-place.ensures) in
    rw (c.in_payload.ensures, at) (stops_quietly N.refl holds sink.ready.2 sink.writing
    (N.refused_at_once _ _ _ _ _ (c.in-Some.byte ∷ []) _ (omega N.arith) N.refl (grind N.arith) read.takes read.between))
