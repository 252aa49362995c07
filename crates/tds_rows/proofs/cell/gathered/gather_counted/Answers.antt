use Rattle.tds_rows.proofs as N
use N.cell.gathered.gather_counted.Goals as goal
use N.{◌∙◌, sym, ap}

pub returns-in_err-read_into-clause-cell : goal.returns-in_err-read_into-clause-cell
returns-in_err-read_into-clause-cell g c =
    let e = c.in_err-read_into.ensures.gives c.requires.going.going in
    N.passed _ _ _ _ c.from_residual.ensures.1 (search (N.rules, N.CellSteps.cell_cut))

pub returns-then-not-length_allowed-clause-cell : goal.returns-then-not-length_allowed-clause-cell
returns-then-not-length_allowed-clause-cell g c =
    let x = c.in_ok-read_into.ensures.gives in
    let taken = N.CellSteps.length_taken c.requires.small.0 (ap (λ l. N.get_or l 0 0) (sym c.bytes.ensures.value)) x in
    rw (c.refusal.ensures, c.place-place.ensures) (N.CellSteps.length_refused N.[] c.if-n-eq0.false (sym c.length_allowed.ensures
    ∙ c.if-not-length_allowed.true) taken.1 (omega N.arith) x.between)

pub returns-clause-cell : goal.returns-clause-cell
returns-clause-cell g c =
    let taken = N.CellSteps.length_taken c.requires.small.0 (ap (λ l. N.get_or l 0 0) (sym c.bytes.ensures.value)) c.in_ok-read_into.ensures.gives in
    let good = sym c.length_allowed.ensures ∙ c.if-not-length_allowed.false in
    N.CellSteps.value_taken (search (N.rules, N.CellSteps.counted_ahead)) _ _ _ _ taken.1 _ _ _ taken.0
    c.in_ok-read_into.ensures.place c.in_ok-read_into.ensures.payload.going c.read_into-2.ensures.place c.read_into-2.ensures.gives
