use N.return_value.read_type_info.Goals as goal
use Rattle.tds_columns.proofs as N
use N.{◌≡◌, ◌∙◌, ◌∷◌, sym, arith}
use N.ElementSteps.{shrunk, cut_into, element_at, refused_into}
use N.TypeSteps.{no_kind, stops_after_steps, type_whole}

pub returns-in-Err-clause-gives : goal.returns-in-Err-clause-gives
returns-in-Err-clause-gives g c = λ before taken. let first = rw c.bytes.ensures.value at c.in-Err.ensures.gives in
    rw (c.in_payload.ensures, c.place-place.ensures) (record {
      at = N.TypeHead;
      stops = N.refused_at_once _ N.TypeHead _ _ _ _ _ (omega arith) c.requires.head.eight first (rw c.requires.head.eight taken.0) taken.1;
    })

pub returns-in_err-read_into-clause-gives : goal.returns-in_err-read_into-clause-gives
returns-in_err-read_into-clause-gives g c = λ before taken. let known = rw c.bytes.ensures.value at c.in-Ok.ensures.gives in
    let e = c.in_err-read_into.ensures.gives c.requires.going.going in
    N.passed _ _ _ _ c.from_residual.ensures.1 (stops_after_steps c.args.small.now.bytes taken c.requires.head.eight c.in-Ok.rest known
    (omega arith) c.requires.head.place (cut_into e (rw known) N.refl))

pub returns-in-Some-clause-kind : goal.returns-in-Some-clause-kind
returns-in-Some-clause-kind g c =
    let t = c.in_ok-read_into.ensures.gives in
    record {
      rest = t.element;
      stands = N.ap (λ (area : N.Space). area.bytes) t.stands;
      info = rw (← (element_at t c.bytes-2.ensures.value (sym c.requires.head.eight)), ← c.bytes.ensures.value) (sym c.kind_of.ensures ∙ c.in-Some.is);
      takes = rw t.whole t.takes;
      place_is = rw t.whole c.in_ok-read_into.ensures.place;
    }

pub returns-in-Some-clause-gives : goal.returns-in-Some-clause-gives
returns-in-Some-clause-gives g c = λ before taken. let t = c.in_ok-read_into.ensures.gives in
    type_whole c.args.small.now.bytes taken c.requires.head.eight c.in-Ok.rest (rw c.bytes.ensures.value at c.in-Ok.ensures.gives) t
    (rw (element_at t c.bytes-2.ensures.value (sym c.requires.head.eight), c.bytes.ensures.value) at (sym c.kind_of.ensures ∙ c.in-Some.is))

pub returns-in-None-clause-area : goal.returns-in-None-clause-area
returns-in-None-clause-area g c =
    let t = c.in_ok-read_into.ensures.gives in
    let kept = shrunk _ t.element t.stands t.whole (sym c.requires.head.eight) c.truncate.ensures in grind arith

pub returns-in-None-clause-gives : goal.returns-in-None-clause-gives
returns-in-None-clause-gives g c = λ before taken. let t = c.in_ok-read_into.ensures.gives in
    let known = rw c.bytes.ensures.value at c.in-Ok.ensures.gives in
    let none : N.kind_of (N.slice_index c.args.small.now.bytes 7 ∷ t.element) ≡ N.None =
    rw (element_at t c.bytes-2.ensures.value (sym c.requires.head.eight), c.bytes.ensures.value) at (sym c.kind_of.ensures ∙ c.in-None.is) in
    let some = no_kind _ t.element known t.whole none in
    rw (c.in_payload-in-None.ensures, c.place-place.ensures) (stops_after_steps c.args.small.now.bytes taken c.requires.head.eight c.in-Ok.rest known
    some c.requires.head.place (refused_into t (omega (arith, some)) (rw known) (rw none)))
