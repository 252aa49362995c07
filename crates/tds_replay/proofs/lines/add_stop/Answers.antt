use Rattle.tds_replay.proofs.Words as N
use Rattle.tds_replay.specs.Lines.{fault_fields, place_number, place_unit, stop_line}
use Rattle.tds_replay.proofs.Sayings.{fails_before, fails_first, four_first, gathers_none, gathers_then}
use N.{ℕ, [], ◌∷◌, ◌++◌, codes}

pub returns : Rattle.tds_replay.proofs.lines.add_stop.Goals.returns
unfolding stop_line
returns g c =
    let stopped = c.args.stopped.now in
    let new = c.gather_all-2.new.notes in
    let has = c.gather_all-2.new.gathered.items in
    let rest : N.List ℕ = N.concat (codes " at " ∷ c.place_parts-number.result.0.now ∷ codes " " ∷ N.decimal c.place_parts-number.result.1
    ∷ codes ", written " ∷ N.decimal stopped.written ∷ codes ", unwritten " ∷ N.decimal stopped.unwritten ∷ codes "\n" ∷ []) in
    rw (← c.number.ensures, ← c.from.ensures, ← c.fault_name.ensures, ← c.place_parts-number.ensures.unit, ← c.place_parts-number.ensures.number)
    (rw (four_first (codes "fault ") (N.decimal c.from.result) (codes " ") c.fault_name.result.now (fault_fields stopped.fault) rest) at
    (gathers_then new has (fault_fields stopped.fault ++ rest) c.in_ok-gather_all.ensures c.gather_all-2.result
    (gathers_then new has rest c.in_ok-add_fields.ensures c.gather_all-2.result c.gather_all-2.ensures)))

-- what comes after the fields of a fault
abbrev rest_of : N.Stopped → N.List ℕ
rest_of stopped = N.concat (codes " at " ∷ place_unit stopped.place ∷ codes " " ∷ N.decimal (place_number stopped.place) ∷ codes ", written "
    ∷ N.decimal stopped.written ∷ codes ", unwritten " ∷ N.decimal stopped.unwritten ∷ codes "\n" ∷ [])

pub returns-in_err-gather_all : Rattle.tds_replay.proofs.lines.add_stop.Goals.returns-in_err-gather_all
unfolding stop_line
returns-in_err-gather_all g c =
    let stopped = c.args.stopped.now in
    gathers_none _ _ _ c.from_residual.result c.from_residual.ensures.1 (rw (← c.number.ensures, ← c.from.ensures, ← c.fault_name.ensures)
    (rw (four_first (codes "fault ") (N.decimal c.from.result) (codes " ") c.fault_name.result.now (fault_fields stopped.fault) (rest_of stopped)) at
    (fails_first _ (N.concat (codes "fault " ∷ N.decimal c.from.result ∷ codes " " ∷ c.fault_name.result.now ∷ []))
    (fault_fields stopped.fault ++ rest_of stopped) c.in_err-gather_all.ensures)))

pub returns-in_err-add_fields : Rattle.tds_replay.proofs.lines.add_stop.Goals.returns-in_err-add_fields
unfolding stop_line
returns-in_err-add_fields g c =
    let stopped = c.args.stopped.now in
    gathers_none _ _ _ c.from_residual-in_err-add_fields.result c.from_residual-in_err-add_fields.ensures.1
    (rw (← c.number.ensures, ← c.from.ensures, ← c.fault_name.ensures)
    (rw (four_first (codes "fault ") (N.decimal c.from.result) (codes " ") c.fault_name.result.now (fault_fields stopped.fault) (rest_of stopped)) at
    (fails_before c.in_ok-gather_all.ensures (fault_fields stopped.fault) (rest_of stopped) c.in_err-add_fields.ensures)))
