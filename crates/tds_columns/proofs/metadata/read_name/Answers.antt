use Rattle.tds_columns.proofs as N
use N.metadata.read_name.Goals as goal
use N.{◌+◌, ◌*◌, ℕ, length, ◌-◌, ◌≡◌, ◌∙◌, [], refl, sym, arith}
use N.ElementSteps.{byte_at, length_into}
use N.GatherSteps.{column_bytes, description_read, name_after}

pub returns-in_err-read_into-clause-gives : goal.returns-in_err-read_into-clause-gives
returns-in_err-read_into-clause-gives = grind (N.arith, N.GatherSteps.description_cut)

-- the number of the units, and what is judged of it
judged : {a b : N.PayloadView} {before after : N.Space} (t : N.TakesInto a b before after 1) (columns : N.List N.Column) (count : ℕ) {bytes : N.List ℕ}
    {index start room units left : ℕ} → length columns ≡ index → bytes ≡ after.bytes → start ≡ length before.bytes → room ≡ before.room
    → units ≡ N.get_or bytes start 0 → left ≡ count - (index + 1) → (units ≡ N.slice_index t.element 0) × (N.too_long before.room (length before.bytes + 1)
    (2 * N.slice_index t.element 0 + 8 * (count - (length columns + 1))) ≡ N.too_long room (start + 1) (2 * units + 8 * left))
judged t columns count number same at limit is other = let u = is ∙ rw N.add-zero at (byte_at t 0 same at) in (grind arith)

pub returns-in-Some-clause-gives : goal.returns-in-Some-clause-gives
returns-in-Some-clause-gives g c =
    λ columns kind number. let t = c.in_ok-read_into.ensures.gives in N.GatherSteps.description_refused {fault = c.in-Some.fault} t (omega arith) refl ((judged
    t columns c.args.at.count number c.bytes.ensures.value c.len-start.ensures.value (c.room.ensures ∙ c.in_ok-read_into.ensures.area.room) c.from-size.ensures
    c.from-later.ensures).1 ∙ sym c.too_long.ensures ∙ c.in-Some.is) refl c.len-start.ensures.value c.truncate.ensures (cc)

pub returns-then-size-eq0-clause-gives : goal.returns-then-size-eq0-clause-gives
returns-then-size-eq0-clause-gives g c = λ columns kind number. let t = c.in_ok-read_into.ensures.gives in
    let w = judged t columns c.args.at.count number c.bytes.ensures.value c.len-start.ensures.value (c.room.ensures
    ∙ c.in_ok-read_into.ensures.area.room) c.from-size.ensures c.from-later.ensures in
    let zero : N.slice_index t.element 0 ≡ 0 = omega arith in (
      record { kind = kind; name = [] },
      description_read t (omega arith) refl (w.1 ∙ sym c.too_long.ensures ∙ c.in_default.is) (rw (t.stands, zero))
          c.in_ok-read_into.ensures.place refl refl (column_bytes _ _ _ _),
    )

pub returns-clause-gives : goal.returns-clause-gives
returns-clause-gives g c = λ columns kind number. let t = c.in_ok-read_into.ensures.gives in
    let w = judged t columns c.args.at.count number c.bytes.ensures.value c.len-start.ensures.value (c.room.ensures
    ∙ c.in_ok-read_into.ensures.area.room) c.from-size.ensures c.from-later.ensures in
    name_after _ _ _ _ c.read_into.new.payload.stopped {columns = columns} {kind = kind} (description_read t (omega arith) refl (w.1 ∙ sym c.too_long.ensures
    ∙ c.in_default.is) (grind arith)
    c.in_ok-read_into.ensures.place refl refl refl)
    c.if-size-eq0.false c.in_ok-read_into.ensures.payload.going c.read_into-2.ensures.place c.read_into-2.ensures.gives

pub returns-clause-fits : goal.returns-clause-fits
returns-clause-fits = grind (arith, length_into)
