use N.metadata.read_info.Goals as goal
use Rattle.tds_columns.proofs as N
use N.{◌≡◌, ◌∙◌, ◌∷◌, refl}
use N.ElementSteps.{element_at}

pub returns-in_err-read_into-clause-gives : goal.returns-in_err-read_into-clause-gives
returns-in_err-read_into-clause-gives = grind (N.arith, N.GatherSteps.description_cut)

pub returns-in-Some-clause-gives : goal.returns-in-Some-clause-gives
returns-in-Some-clause-gives g c = λ count columns number. let t = c.in_ok-read_into.ensures.gives in
    let found : N.kind_of (c.args.byte ∷ t.element) ≡ N.Some c.in-Some.field-0 = rw (element_at t c.bytes.ensures.value c.len-start.ensures.value) at
    (N.sym c.kind_of.ensures ∙ c.in-Some.is) in (
      c.in-Some.field-0,
      N.GatherSteps.description_read t c.requires.follows.some (rw c.requires.follows.known) (rw found) (rw (t.stands, found))
          c.in_ok-read_into.ensures.place refl refl refl,
    )

pub returns-in-None-clause-gives : goal.returns-in-None-clause-gives
returns-in-None-clause-gives g c =
    λ count columns number. let t = c.in_ok-read_into.ensures.gives in let none : N.kind_of (c.args.byte ∷ t.element) ≡ N.None = rw (element_at t
    c.bytes.ensures.value c.len-start.ensures.value) at (N.sym c.kind_of.ensures ∙ c.in-None.is) in N.GatherSteps.description_refused {fault = N.BadTypeInfo
    c.args.index} t c.requires.follows.some (rw c.requires.follows.known) (rw (none, number)) refl c.len-start.ensures.value c.truncate.ensures (cc)
