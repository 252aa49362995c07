use Rattle.tds_csv.proofs as N
use N.{take, ℕ, ◌++◌, ◌+◌, ◌≡◌, ◌≤◌}
use Rattle.tds_text.specs.Quoting.{end_after}

-- the comma, and the field that was written after it
in_place : (column start made : ℕ) (first new rest text : N.List ℕ) → start ≤ N.length first → made ≤ N.length new → take made new ≡ text
    → ((t : N.List ℕ) → take start first ++ t ≡ N.after_comma column t) → take (start + made) (take start first ++ (new ++ rest)) ≡ N.after_comma column text
in_place column start made first new rest text there within is comma =
    let l = N.length-take-le start first there in
    let front = rw l at (N.take-append-add (take start first) (new ++ rest) made) in
    grind (N.arith, N.take-append-le)

pub returns-clause-text : N.names.write_name.Goals.returns-clause-text
returns-clause-text = grind (N.arith, in_place)
