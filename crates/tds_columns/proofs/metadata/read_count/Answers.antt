use N.metadata.read_count.Goals as goal
use Rattle.tds_columns.proofs as N
use N.{◌≡◌, ◌∙◌, refl, rules}
use N.ColumnMeaning.{not_zero, room_for}
use N.GatherSteps.{count_read}

pub returns-in_err-read_into-clause-gives : goal.returns-in_err-read_into-clause-gives
returns-in_err-read_into-clause-gives = grind (N.arith, N.GatherSteps.description_cut)

pub returns-then-count-clause-gives : goal.returns-then-count-clause-gives
returns-then-count-clause-gives g c = let t = c.in_ok-read_into.ensures.gives in
    let all : N.little_number 2 c.read_into.new.area.bytes ≡ 0xFFFF = search rules in (
      count_read t c.requires.empty (N.sym all) refl refl c.in_ok-read_into.ensures.place (grind N.arith) (rw c.clear.ensures.value),
      N.GatherMeaning.gathers_none c.requires.empty t (search rules) all,
    )

pub returns-in-None-clause-gives : goal.returns-in-None-clause-gives
returns-in-None-clause-gives = grind (N.arith, count_read, not_zero, room_for, N.ElementSteps.length_into)

pub returns-in-Some-clause-gives : goal.returns-in-Some-clause-gives
returns-in-Some-clause-gives = grind (N.arith, N.GatherSteps.count_refused)
