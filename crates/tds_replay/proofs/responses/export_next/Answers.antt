use Rattle.tds_replay.proofs.Words as N
use Rattle.tds_replay.proofs.responses.export_next.Goals as goal

pub returns-in-Ok-clause-gives : goal.returns-in-Ok-clause-gives
returns-in-Ok-clause-gives g c =
    let seen = c.in-Ok-false.ensures in (
      N.standing c.args.areas.now c.is_over.new.self c.args.to.now c.args.notes.now,
      record {
        looks = record { bytes = seen.keeps; areas = N.refl; writer = N.refl };
        told = rw c.in-Ok-false.field-0-test at seen.over;
        counts = seen.counts.0;
        notes = N.refl;
      },
      c.in-Ok.ensures,
    )

pub returns-in-Err-export_one-clause-gives : goal.returns-in-Err-export_one-clause-gives
returns-in-Err-export_one-clause-gives g c =
    let seen = c.in-Ok-false.ensures in
    N.inl (
      N.standing c.args.areas.now c.is_over.new.self c.args.to.now c.args.notes.now,
      record {
        looks = record { bytes = seen.keeps; areas = N.refl; writer = N.refl };
        told = rw c.in-Ok-false.field-0-test at seen.over;
        counts = seen.counts.0;
        notes = N.refl;
      },
      c.in-Err-export_one.ensures,
    )
