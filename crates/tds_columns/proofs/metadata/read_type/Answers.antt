use Rattle.tds_columns.proofs as N
use N.metadata.read_type.Goals as goal
use N.{◌≡◌, ◌∙◌, ◌+◌, ◌*◌, ◌≤◌, ◌++◌, ℕ, refl, arith}
use N.ElementSteps.{byte_at}
use N.GatherSteps.{description_read, part_after}

-- nothing follows this type byte
bare : (bytes after : N.List ℕ) (count : ℕ) (columns : N.List N.Column) (byte rest : ℕ) → N.rest_length byte ≡ N.Some rest → rest ≡ 0 → after ≡ bytes
    → (kind : N.Kind) × (N.with_type bytes count columns byte (N.unwrap_or (N.rest_length byte) 0) ≡ N.InColumn after count columns (N.NameCount kind))
bare bytes after count columns byte rest known zero = grind (arith, N.bare_type)

-- a head that is accepted
no_fault : (room so_far byte rest index left : ℕ) → N.rest_length byte ≡ N.Some rest → (so_far + rest) + 1 + 8 * left ≤ room
    → N.head_fault room so_far byte index left ≡ N.None
no_fault = grind arith

pub returns-in_err-read_into-clause-gives : goal.returns-in_err-read_into-clause-gives
returns-in_err-read_into-clause-gives = grind (N.arith, N.GatherSteps.description_cut)

pub returns-in-Err-clause-gives : goal.returns-in-Err-clause-gives
returns-in-Err-clause-gives g c = λ columns number. let t = c.in_ok-read_into.ensures.gives in let first = rw (
  byte_at t 6 c.bytes.ensures.value c.len-start.ensures.value,
  c.len-start.ensures.value,
  c.room.ensures ∙ c.in_ok-read_into.ensures.area.room,
) at c.in-Err.ensures in N.GatherSteps.description_refused {fault =
    c.in-Err.fault} t (omega arith) refl (grind arith) refl c.len-start.ensures.value c.truncate.ensures (cc)

pub returns-then-rest-eq0-clause-gives : goal.returns-then-rest-eq0-clause-gives
returns-then-rest-eq0-clause-gives g c = λ columns number. let t = c.in_ok-read_into.ensures.gives in
    let known = rw (byte_at t 6 c.bytes.ensures.value c.len-start.ensures.value) at c.in-Ok.ensures.0 in
    let kind = bare (c.args.area.now.bytes ++ t.element) c.read_into.new.area.bytes c.args.at.count columns (N.slice_index t.element 6) c.in-Ok.rest known
    c.if-rest-eq0.true (rw t.stands) in (
      kind.0,
      description_read t (omega arith) refl (grind (arith, no_fault)) kind.1 c.in_ok-read_into.ensures.place refl refl refl,
    )

pub returns-clause-gives : goal.returns-clause-gives
returns-clause-gives g c = λ columns number. let t = c.in_ok-read_into.ensures.gives in
    let byte = byte_at t 6 c.bytes.ensures.value c.len-start.ensures.value in
    part_after _ _ _ _ _ c.in_ok-read_into.ensures.area.room
    (description_read t (omega arith) refl (grind (arith, no_fault)) (grind (arith, N.choose_false, N.ne_eqb)) c.in_ok-read_into.ensures.place refl refl refl)
    (c.read_info.ensures.gives c.args.at.count columns number)
